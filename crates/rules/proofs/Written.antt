-- What is read was written: bytes that are read as a request begin with the bytes of a survey record that fits and asks
-- for it. So the table has no other kind, and every byte of a body counts. Assumes nothing.
use Prim.Native.Nat.{ℕ, zero, suc, ◌+◌, ◌*◌, ◌/◌, ◌%◌, ◌^◌, ◌≤◌, ◌<◌}
use mathlib.Core.Bool.{Bool, true, false}
use mathlib.Core.List.{List, [], ◌∷◌, ◌++◌}
use mathlib.Core.Option.{Option, none, some}
use mathlib.Core.Path.{◌≡◌, refl, sym, ◌∙◌, ap}
use native.Mathlib.Nat.{add-zero, add-suc, zero-add, suc-add, pow-suc}
use native.Mathlib.Omega.{arith}
use lib.Dec.{leb}
use lib.ListN.{length, get_or, drop, length-drop}
use lib.Seq.{drop-drop}
use borrow.Author.Tests.{leb-true}
use Rattle.rules.specs.Limits.{beyond}
use Rattle.rules.specs.Request.{Request}
use Rattle.rules.specs.Record.{little_endian, u32_at, u64_at, Kind, kinds, whole, reads_kind, reads}
use Rattle.rules.specs.Writing.{bytes_of, u32, u64, Survey, kind_of, asks, body_of, encode, Fits}
use Rattle.rules.specs.Writing.{insert_metres, insert_links, insert_micrometres, insert_included, delete_range}
use Rattle.rules.specs.Writing.{delete_min, delete_max, clear_all, query_range}
use Rattle.rules.proofs.Lists.{All, all_nil, all_cons}

-- a number read from n bytes fits them
small : (n : ℕ) (bs : List ℕ) → All (◌< 256) bs → little_endian n bs < 256 ^ n
small zero bs a = omega arith
small (suc n) [] a = omega (arith, pow-suc 256 n, small n [] all_nil)
small (suc n) (b ∷ bs) (all_cons p a) = omega (arith, pow-suc 256 n, small n bs a)

-- and its n bytes are those that it was read from
write_back : (n : ℕ) (bs : List ℕ) → All (◌< 256) bs → n ≤ length bs →
    bytes_of n (little_endian n bs) ++ drop n bs ≡ bs
write_back zero bs a h = refl
write_back (suc n) [] a h = absurd (omega arith)
write_back (suc n) (b ∷ bs) (all_cons p a) h =
    let y = little_endian n bs in
    let low : (b + 256 * y) % 256 ≡ b = omega arith in
    let high : (b + 256 * y) / 256 ≡ y = omega arith in
    rw (low, high, write_back n bs a (omega arith))

-- what holds of all bytes holds of those from byte i on
all_drop : (i : ℕ) {bs : List ℕ} → All (◌< 256) bs → All (◌< 256) (drop i bs)
all_drop zero a = a
all_drop (suc i) all_nil = all_nil
all_drop (suc i) (all_cons p a) = all_drop i a

-- so it is with n bytes from byte i on, where byte j is the next after them
write_at : (i n j : ℕ) (bs : List ℕ) → All (◌< 256) bs → i + n ≡ j → j ≤ length bs →
    bytes_of n (little_endian n (drop i bs)) ++ drop j bs ≡ drop i bs
write_at i n j bs a e h =
    rw (sym e, sym (drop-drop n i bs)) (write_back n (drop i bs) (all_drop i a) (omega (arith, length-drop i bs)))

-- a body of two u32 and a u64, of three u64, of two u64: its numbers fit, and are written as its bytes
module _ (body : List ℕ) (a : All (◌< 256) body) where
  u32_small : (i : ℕ) → u32_at i body < 2 ^ 32
  u32_small i = small 4 (drop i body) (all_drop i a)

  u64_small : (i : ℕ) → u64_at i body < beyond
  u64_small i = small 8 (drop i body) (all_drop i a)

  short_small : (u32_at 0 body < 2 ^ 32) × (u32_at 4 body < 2 ^ 32) × (u64_at 8 body < beyond)
  short_small = (u32_small 0, u32_small 4, u64_small 8)

  three_small : (u64_at 0 body < beyond) × (u64_at 8 body < beyond) × (u64_at 16 body < beyond)
  three_small = (u64_small 0, u64_small 8, u64_small 16)

  two_small : (u64_at 0 body < beyond) × (u64_at 8 body < beyond)
  two_small = (u64_small 0, u64_small 8)

  short_written : 16 ≤ length body →
      u32 (u32_at 0 body) ++ u32 (u32_at 4 body) ++ u64 (u64_at 8 body) ++ drop 16 body ≡ body
  short_written h =
      ap (λ bs. u32 (u32_at 0 body) ++ u32 (u32_at 4 body) ++ bs) (write_at 8 8 16 body a refl h)
      ∙ ap (λ bs. u32 (u32_at 0 body) ++ bs) (write_at 4 4 8 body a refl (omega arith))
      ∙ write_at 0 4 4 body a refl (omega arith)

  three_written : 24 ≤ length body →
      u64 (u64_at 0 body) ++ u64 (u64_at 8 body) ++ u64 (u64_at 16 body) ++ drop 24 body ≡ body
  three_written h =
      ap (λ bs. u64 (u64_at 0 body) ++ u64 (u64_at 8 body) ++ bs) (write_at 16 8 24 body a refl h)
      ∙ ap (λ bs. u64 (u64_at 0 body) ++ bs) (write_at 8 8 16 body a refl (omega arith))
      ∙ write_at 0 8 8 body a refl (omega arith)

  two_written : 16 ≤ length body → u64 (u64_at 0 body) ++ u64 (u64_at 8 body) ++ drop 16 body ≡ body
  two_written h =
      ap (λ bs. u64 (u64_at 0 body) ++ bs) (write_at 8 8 16 body a refl h)
      ∙ write_at 0 8 8 body a refl (omega arith)

-- a record of that kind that fits asks for what the row of the table means, and the body begins with the record's
data Says (kind : ℕ) (k : Kind) (body : List ℕ) : Type 0 where
  says : (s : Survey) → Fits s → kind_of s ≡ kind → asks s ≡ k.means body → length (body_of s) ≡ k.body_length →
      body_of s ++ drop k.body_length body ≡ body → Says kind k body

-- there is such a record for each body that is long enough, if there is a row
data Rowed (kind : ℕ) : Option Kind → Type 0 where
  no_row : Rowed kind none
  its_row : {k : Kind} →
      ((body : List ℕ) → All (◌< 256) body → k.body_length ≤ length body → Says kind k body) → Rowed kind (some k)

-- so it is with each row of a table whose first row is of that kind
infixr 60 ◌▹◌
data Rows : ℕ → List (Option Kind) → Type 0 where
  done : {kind : ℕ} → Rows kind []
  ◌▹◌ : {kind : ℕ} {o : Option Kind} {table : List (Option Kind)} → Rowed kind o → Rows (suc kind) table →
      Rows kind (o ∷ table)

-- the table, row by row
all_rowed : Rows 0 kinds
all_rowed =
    no_row
    ▹ its_row
    (λ body a h.
    says (insert_metres (u32_at 0 body) (u32_at 4 body) (u64_at 8 body)) (short_small body a) refl refl refl
    (short_written body a h))
    ▹ its_row
    (λ body a h.
    says (insert_links (u32_at 0 body) (u32_at 4 body) (u64_at 8 body)) (short_small body a) refl refl refl
    (short_written body a h))
    ▹ its_row
    (λ body a h.
    says (insert_micrometres (u64_at 0 body) (u64_at 8 body) (u64_at 16 body)) (three_small body a) refl refl refl
    (three_written body a h))
    ▹ its_row
    (λ body a h.
    says (insert_included (u64_at 0 body) (u64_at 8 body) (u64_at 16 body)) (three_small body a) refl refl refl
    (three_written body a h))
    ▹ its_row
    (λ body a h.
    says (delete_range (u64_at 0 body) (u64_at 8 body)) (two_small body a) refl refl refl (two_written body a h))
    ▹ its_row (λ body a h. says delete_min tt refl refl refl refl)
    ▹ its_row (λ body a h. says delete_max tt refl refl refl refl)
    ▹ its_row (λ body a h. says clear_all tt refl refl refl refl)
    ▹ its_row
    (λ body a h.
    says (query_range (u64_at 0 body) (u64_at 8 body)) (two_small body a) refl refl refl (two_written body a h))
    ▹ done

-- what stands at a place of such a table
row_at : {kind : ℕ} {table : List (Option Kind)} → Rows kind table → (i : ℕ) → Rowed (kind + i) (get_or table i none)
row_at done i = no_row
row_at {kind} (r ▹ rows) zero = rw (add-zero kind) r
row_at {kind} (r ▹ rows) (suc i) = rw (add-suc kind i, ← suc-add kind i) (row_at rows i)

-- a record that fits and asks for the request has as many bytes as were taken, and the bytes begin with it
pub record Written (bytes : List ℕ) (request : Request) (taken : ℕ) : Type 0 where
  pub survey : Survey
  pub fits : Fits survey
  pub asked : asks survey ≡ request
  pub long : length (encode survey) ≡ taken
  pub begins : encode survey ++ drop taken bytes ≡ bytes

-- a body that its row reads as a request
written_body : (kind : ℕ) (body : List ℕ) → All (◌< 256) body → {o : Option Kind} → Rowed kind o →
    (request : Request) (taken : ℕ) → reads_kind o body ≡ whole request taken → Written (kind ∷ body) request taken
written_body kind body a no_row request taken e = absurd (let z : ◌≡◌ {A = ℕ} 0 1 = cc in omega arith)
written_body kind body a (its_row {k = k} row) request taken e = go (leb k.body_length (length body)) refl
  where
    from : Says kind k body → k.means body ≡ request → suc k.body_length ≡ taken →
        Written (kind ∷ body) request taken
    from (says s fits same asked long begins) p q =
        record {
          survey = s;
          fits = fits;
          asked = asked ∙ p;
          long = ap suc long ∙ q;
          begins = rw (sym q, same, begins);
        }

    go : (t : Bool) → leb k.body_length (length body) ≡ t → Written (kind ∷ body) request taken
    go false f = absurd (let z : ◌≡◌ {A = ℕ} 0 1 = cc (rw f at e) in omega arith)
    go true f =
        let e' = rw f at e in
        from (row body a (leb-true k.body_length (length body) f)) (cc) (cc)

-- so it is with all bytes that are read as a request
pub read_was_written : (bytes : List ℕ) → All (◌< 256) bytes → (request : Request) (taken : ℕ) →
    reads kinds bytes ≡ whole request taken → Written bytes request taken
unfolding reads
read_was_written [] a request taken e = absurd (let z : ◌≡◌ {A = ℕ} 0 1 = cc in omega arith)
read_was_written (kind ∷ body) (all_cons p a) request taken e =
    written_body kind body a (rw (zero-add kind) at (row_at all_rowed kind)) request taken e
