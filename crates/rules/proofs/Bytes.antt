-- What is read of a record hangs on its own bytes alone: document 01, "One byte of kind, then a body whose length the kind
-- fixes", "bytes after the record are ignored". Assumes nothing.
use Prim.Native.Nat.{ℕ, zero, suc, ◌+◌, ◌*◌, ◌≤◌}
use mathlib.Core.Bool.{Bool, true, false}
use mathlib.Core.List.{List, [], ◌∷◌}
use mathlib.Core.Option.{Option, none, some}
use mathlib.Core.Path.{◌≡◌, refl, ◌∙◌, ap}
use native.Mathlib.Omega.{arith}
use lib.Dec.{leb}
use lib.ListN.{length, get_or, take, drop, length-take}
use borrow.Author.Tests.{le-leb, leb-true}
use Rattle.rules.specs.Range.{End, excluded, included}
use Rattle.rules.specs.Balance.{left, right}
use Rattle.rules.specs.Request.{Request, deleting, deleting_end, clearing, querying}
use Rattle.rules.specs.Record.{metre, link, little_endian, Kind, insert_by, insert_exact, with_pair, bare, kinds}
use Rattle.rules.specs.Record.{feed_kinds, whole, reads_kind, reads}
use Rattle.rules.proofs.Lists.{All, all_nil, all_cons}

-- a number of n bytes from byte i on is read from the first j bytes where they hold it
within_first : (i n j : ℕ) (bs : List ℕ) → i + n ≤ j →
    little_endian n (drop i (take j bs)) ≡ little_endian n (drop i bs)
within_first zero zero j bs h = refl
within_first zero (suc n) zero bs h = absurd (omega arith)
within_first zero (suc n) (suc j) [] h = refl
within_first zero (suc n) (suc j) (b ∷ bs) h = ap (λ x. b + 256 * x) (within_first zero n j bs (omega arith))
within_first (suc i) n zero bs h = absurd (omega arith)
within_first (suc i) n (suc j) [] h = refl
within_first (suc i) n (suc j) (b ∷ bs) h = within_first i n j bs (omega arith)

-- a kind of the table reads its body and nothing behind it
pub data Own : Option Kind → Type 0 where
  no_kind : Own none
  its_own : (k : Kind) →
      ((j : ℕ) (body : List ℕ) → k.body_length ≤ j → k.means (take j body) ≡ k.means body) → Own (some k)

-- kinds 1 and 2, 3 and 4, 5 and 9, and 6 to 8
own-insert_by : (factor : ℕ) → Own (some (insert_by factor))
own-insert_by factor =
    its_own (insert_by factor)
    (λ j body h.
    rw (
      within_first 0 4 j body (omega arith),
      within_first 4 4 j body (omega arith),
      within_first 8 8 j body (omega arith),
    ))

own-insert_exact : (end : End) → Own (some (insert_exact end))
own-insert_exact end =
    its_own (insert_exact end)
    (λ j body h.
    rw (
      within_first 0 8 j body (omega arith),
      within_first 8 8 j body (omega arith),
      within_first 16 8 j body (omega arith),
    ))

own-with_pair : (ask : ℕ → ℕ → Request) → Own (some (with_pair ask))
own-with_pair ask =
    its_own (with_pair ask)
    (λ j body h. rw (within_first 0 8 j body (omega arith), within_first 8 8 j body (omega arith)))

own_bare : (request : Request) → Own (some (bare request))
own_bare request = its_own (bare request) (λ j body h. refl)

-- so each kind of the table, and of the one for a feed
pub own-kinds : All Own kinds
own-kinds =
    all_cons no_kind
    (all_cons (own-insert_by metre)
    (all_cons (own-insert_by link)
    (all_cons (own-insert_exact excluded)
    (all_cons (own-insert_exact included)
    (all_cons (own-with_pair (deleting excluded))
    (all_cons (own_bare (deleting_end left))
    (all_cons (own_bare (deleting_end right))
    (all_cons (own_bare clearing) (all_cons (own-with_pair (querying excluded)) all_nil)))))))))

own-take : (n : ℕ) {table : List (Option Kind)} → All Own table → All Own (take n table)
own-take zero a = all_nil
own-take (suc n) all_nil = all_nil
own-take (suc n) (all_cons p a) = all_cons p (own-take n a)

pub own-feed_kinds : All Own feed_kinds
own-feed_kinds = own-take 9 own-kinds

-- whatever the byte of kind
own_at : {table : List (Option Kind)} → All Own table → (n : ℕ) → Own (get_or table n none)
own_at all_nil n = no_kind
own_at (all_cons p a) zero = p
own_at (all_cons p a) (suc n) = own_at a n

-- what holds of a record that is whole: it takes its kind at least, it is there, and it is read alike from any number
-- of bytes that hold it
pub record OwnBytes (table : List (Option Kind)) (bytes : List ℕ) (request : Request) (taken : ℕ) : Type 0 where
  pub some_byte : 1 ≤ taken
  pub all_there : taken ≤ length bytes
  pub alike : (t : ℕ) → taken ≤ t → reads table (take t bytes) ≡ whole request taken

-- a body of a kind that reads only its own
own_read : (table : List (Option Kind)) (b : ℕ) (body : List ℕ) {o : Option Kind} → Own o → get_or table b none ≡ o →
    (request : Request) (taken : ℕ) → reads_kind o body ≡ whole request taken →
    OwnBytes table (b ∷ body) request taken
unfolding reads
own_read table b body no_kind e request taken h = absurd (let z : ◌≡◌ {A = ℕ} 0 1 = cc in omega arith)
own_read table b body (its_own k own) e request taken h = go (leb k.body_length (length body)) refl
  where
    alike_from : (t : ℕ) → k.body_length ≤ length body → suc k.body_length ≤ t →
        reads table (take t (b ∷ body)) ≡ whole (k.means body) (suc k.body_length)
    alike_from zero there le = absurd (omega arith)
    alike_from (suc j) there le =
        let fits : leb k.body_length (length (take j body)) ≡ true =
        le-leb k.body_length (length (take j body)) (omega (arith, length-take j body)) in
        rw (e, fits, own j body (omega arith)) refl

    go : (t : Bool) → leb k.body_length (length body) ≡ t → OwnBytes table (b ∷ body) request taken
    go false f = absurd (let z : ◌≡◌ {A = ℕ} 0 1 = cc (rw f at h) in omega arith)
    go true f =
        let h' = rw f at h in
        let there = leb-true k.body_length (length body) f in
        let same_taken : taken ≡ suc k.body_length = cc in
        record {
          some_byte = omega arith;
          all_there = omega arith;
          alike = λ t le. alike_from t there (omega arith) ∙ h';
        }

-- a record of a table whose kinds do so
pub own_bytes : (table : List (Option Kind)) → All Own table → (bytes : List ℕ) (request : Request) (taken : ℕ) →
    reads table bytes ≡ whole request taken → OwnBytes table bytes request taken
unfolding reads
own_bytes table own [] request taken h = absurd (let z : ◌≡◌ {A = ℕ} 0 1 = cc in omega arith)
own_bytes table own (b ∷ body) request taken h = own_read table b body (own_at own b) refl request taken h
