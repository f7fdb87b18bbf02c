-- What is written is read: the bytes of a survey record that says something are read as the request for it, whatever
-- follows them, and as cut short where one lacks. No two records have the same bytes. Assumes nothing.
use Prim.Native.Nat.{ℕ, zero, suc, ◌*◌, ◌/◌, ◌%◌, ◌^◌, ◌≤◌, ◌<◌}
use mathlib.Core.List.{List, [], ◌∷◌, ◌++◌}
use mathlib.Core.Option.{Option, none, some}
use mathlib.Core.Path.{◌≡◌, refl, sym, ◌∙◌, ap, subst}
use native.Mathlib.Nat.{pow-suc}
use native.Mathlib.Omega.{arith}
use lib.ListN.{length, get_or, take, length-append, length-take, get_or-eq_default}
use borrow.Author.Tests.{le-leb, lt-leb}
use Rattle.rules.specs.Limits.{beyond}
use Rattle.rules.specs.Range.{excluded, included}
use Rattle.rules.specs.Request.{inserting, deleting, querying}
use Rattle.rules.specs.Record.{metre, link, little_endian, u32_at, u64_at, Kind, kinds, feed_kinds}
use Rattle.rules.specs.Record.{whole, unknown, cut_short, reads_kind, reads}
use Rattle.rules.specs.Writing.{bytes_of, u32, u64, Survey, kind_of, asks, body_of, encode, Fits}
use Rattle.rules.specs.Writing.{insert_metres, insert_links, insert_micrometres, insert_included, delete_range}
use Rattle.rules.specs.Writing.{delete_min, delete_max, clear_all, query_range}
use Rattle.rules.proofs.Lists.{All, all_nil, all_cons, all_both}

-- the n bytes of a number that fits them are read as that number, whatever follows
pub read_back : (n x : ℕ) (rest : List ℕ) → x < 256 ^ n → little_endian n (bytes_of n x ++ rest) ≡ x
read_back zero x rest h = omega arith
read_back (suc n) x rest h =
    omega (arith, pow-suc 256 n, read_back n (x / 256) rest (omega (arith, pow-suc 256 n)))

-- what is made of the numbers of a body: of two u32 and a u64, of three u64, of two u64
module _ {A : Type 0} where
  abbrev of_short : (ℕ → ℕ → ℕ → A) → List ℕ → A
  of_short f body = f (u32_at 0 body) (u32_at 4 body) (u64_at 8 body)

  abbrev of_three : (ℕ → ℕ → ℕ → A) → List ℕ → A
  of_three f body = f (u64_at 0 body) (u64_at 8 body) (u64_at 16 body)

  abbrev of_two : (ℕ → ℕ → A) → List ℕ → A
  of_two f body = f (u64_at 0 body) (u64_at 8 body)

  -- is made of the numbers written, where they fit
  short_back : (f : ℕ → ℕ → ℕ → A) (a b v : ℕ) → (a < 2 ^ 32) × (b < 2 ^ 32) × (v < beyond) → (rest : List ℕ) →
      of_short f (u32 a ++ u32 b ++ u64 v ++ rest) ≡ f a b v
  short_back f a b v (p, q, r) rest =
      rw (read_back 4 a (u32 b ++ u64 v ++ rest) p, read_back 4 b (u64 v ++ rest) q, read_back 8 v rest r)

  three_back : (f : ℕ → ℕ → ℕ → A) (a b v : ℕ) → (a < beyond) × (b < beyond) × (v < beyond) → (rest : List ℕ) →
      of_three f (u64 a ++ u64 b ++ u64 v ++ rest) ≡ f a b v
  three_back f a b v (p, q, r) rest =
      rw (read_back 8 a (u64 b ++ u64 v ++ rest) p, read_back 8 b (u64 v ++ rest) q, read_back 8 v rest r)

  two_back : (f : ℕ → ℕ → A) (a b : ℕ) → (a < beyond) × (b < beyond) → (rest : List ℕ) →
      of_two f (u64 a ++ u64 b ++ rest) ≡ f a b
  two_back f a b (p, q) rest = rw (read_back 8 a (u64 b ++ rest) p, read_back 8 b rest q)

-- what a row of the table does with the body of a record: the kind's length is the body's, and what the kind means is
-- what the record asks
data Row (s : Survey) : Option Kind → Type 0 where
  row : {k : Kind} → k.body_length ≡ length (body_of s) →
      ((rest : List ℕ) → k.means (body_of s ++ rest) ≡ asks s) → Row s (some k)

-- each record that fits has such a row
row_of : (s : Survey) → Fits s → Row s (get_or kinds (kind_of s) none)
row_of (insert_metres a b v) h = row refl (short_back (λ x y. inserting excluded (metre * x) (metre * y)) a b v h)
row_of (insert_links a b v) h = row refl (short_back (λ x y. inserting excluded (link * x) (link * y)) a b v h)
row_of (insert_micrometres a b v) h = row refl (three_back (inserting excluded) a b v h)
row_of (insert_included a b v) h = row refl (three_back (inserting included) a b v h)
row_of (delete_range a b) h = row refl (two_back (deleting excluded) a b h)
row_of delete_min h = row refl (λ rest. refl)
row_of delete_max h = row refl (λ rest. refl)
row_of clear_all h = row refl (λ rest. refl)
row_of (query_range a b) h = row refl (two_back (querying excluded) a b h)

-- a row reads the body as what the record asks, whatever follows, and a part of the body as cut short
row-whole : {s : Survey} {o : Option Kind} → Row s o → (rest : List ℕ) →
    reads_kind o (body_of s ++ rest) ≡ whole (asks s) (length (encode s))
row-whole {s} (row {k = k} long meant) rest =
    let fits = le-leb k.body_length (length (body_of s ++ rest)) (omega (arith, length-append (body_of s) rest)) in
    rw (fits, meant rest, long)

row_cut : {s : Survey} {o : Option Kind} → Row s o → (n : ℕ) → n < length (body_of s) →
    reads_kind o (take n (body_of s)) ≡ cut_short
row_cut {s} (row {k = k} long meant) n h =
    rw (lt-leb k.body_length (length (take n (body_of s))) (omega (arith, length-take n (body_of s))))

-- a record that fits is read as what it asks, and takes all its bytes; "bytes after the record are ignored"
pub read-written : (s : Survey) → Fits s → (rest : List ℕ) →
    reads kinds (encode s ++ rest) ≡ whole (asks s) (length (encode s))
unfolding reads
read-written s h rest = row-whole (row_of s h) rest

-- "15 | .. body cut short": so it is with fewer bytes
pub read_cut : (s : Survey) → Fits s → (n : ℕ) → n < length (encode s) → reads kinds (take n (encode s)) ≡ cut_short
unfolding reads
read_cut s h zero lt = refl
read_cut s h (suc n) lt = row_cut (row_of s h) n (omega arith)

-- "14 | kind not in the table (in a feed, also 9)": a feed has the same row for every kind but 9, and none for that
same_row : (s : Survey) → (kind_of s ≡ 9 → ⊥) → get_or kinds (kind_of s) none ≡ get_or feed_kinds (kind_of s) none
same_row (insert_metres a b v) h = refl
same_row (insert_links a b v) h = refl
same_row (insert_micrometres a b v) h = refl
same_row (insert_included a b v) h = refl
same_row (delete_range a b) h = refl
same_row delete_min h = refl
same_row delete_max h = refl
same_row clear_all h = refl
same_row (query_range a b) h = absurd (h refl)

-- so that a feed reads every record as what it asks, but for a query
pub read-fed : (s : Survey) → Fits s → (kind_of s ≡ 9 → ⊥) → (rest : List ℕ) →
    reads feed_kinds (encode s ++ rest) ≡ whole (asks s) (length (encode s))
unfolding reads
read-fed s h other rest = row-whole (subst (λ o. Row s o) (same_row s other) (row_of s h)) rest

pub query_unfed : (a b : ℕ) (rest : List ℕ) → reads feed_kinds (encode (query_range a b) ++ rest) ≡ unknown
unfolding reads
query_unfed a b rest = refl

-- nor is any other number a kind: 0, those from 10 on, and in a feed those from 9 on
pub zero_unread : (body : List ℕ) → reads kinds (0 ∷ body) ≡ unknown
unfolding reads
zero_unread body = refl

pub above_unread : (kind : ℕ) (body : List ℕ) → 10 ≤ kind → reads kinds (kind ∷ body) ≡ unknown
unfolding reads
above_unread kind body h = ap (λ o. reads_kind o body) (get_or-eq_default kinds none h)

pub above_unfed : (kind : ℕ) (body : List ℕ) → 9 ≤ kind → reads feed_kinds (kind ∷ body) ≡ unknown
unfolding reads
above_unfed kind body h = ap (λ o. reads_kind o body) (get_or-eq_default feed_kinds none h)

-- each byte of a number, and of a record, is below 256
number-below : (n x : ℕ) → All (◌< 256) (bytes_of n x)
number-below zero x = all_nil
number-below (suc n) x = all_cons {x = x % 256} (omega arith) (number-below n (x / 256))

body_below : (s : Survey) → All (◌< 256) (body_of s)
body_below (insert_metres a b v) = all_both (all_both (number-below 4 a) (number-below 4 b)) (number-below 8 v)
body_below (insert_links a b v) = all_both (all_both (number-below 4 a) (number-below 4 b)) (number-below 8 v)
body_below (insert_micrometres a b v) = all_both (all_both (number-below 8 a) (number-below 8 b)) (number-below 8 v)
body_below (insert_included a b v) = all_both (all_both (number-below 8 a) (number-below 8 b)) (number-below 8 v)
body_below (delete_range a b) = all_both (number-below 8 a) (number-below 8 b)
body_below delete_min = all_nil
body_below delete_max = all_nil
body_below clear_all = all_nil
body_below (query_range a b) = all_both (number-below 8 a) (number-below 8 b)

kind_below : (s : Survey) → kind_of s < 256
kind_below (insert_metres a b v) = omega arith
kind_below (insert_links a b v) = omega arith
kind_below (insert_micrometres a b v) = omega arith
kind_below (insert_included a b v) = omega arith
kind_below (delete_range a b) = omega arith
kind_below delete_min = omega arith
kind_below delete_max = omega arith
kind_below clear_all = omega arith
kind_below (query_range a b) = omega arith

pub bytes_below : (s : Survey) → All (◌< 256) (encode s)
bytes_below s = all_cons (kind_below s) (body_below s)

-- what a record says, back from its bytes, by its kind
abbrev sayings : List (List ℕ → Survey)
sayings =
    (λ body. clear_all)
    ∷ of_short insert_metres
    ∷ of_short insert_links
    ∷ of_three insert_micrometres
    ∷ of_three insert_included
    ∷ of_two delete_range
    ∷ (λ body. delete_min)
    ∷ (λ body. delete_max)
    ∷ (λ body. clear_all)
    ∷ of_two query_range
    ∷ []

abbrev decode : List ℕ → Survey
decode [] = clear_all
decode (kind ∷ body) = get_or sayings kind (λ body. clear_all) body

decode-encode : (s : Survey) → Fits s → (rest : List ℕ) → decode (encode s ++ rest) ≡ s
decode-encode (insert_metres a b v) h rest = short_back insert_metres a b v h rest
decode-encode (insert_links a b v) h rest = short_back insert_links a b v h rest
decode-encode (insert_micrometres a b v) h rest = three_back insert_micrometres a b v h rest
decode-encode (insert_included a b v) h rest = three_back insert_included a b v h rest
decode-encode (delete_range a b) h rest = two_back delete_range a b h rest
decode-encode delete_min h rest = refl
decode-encode delete_max h rest = refl
decode-encode clear_all h rest = refl
decode-encode (query_range a b) h rest = two_back query_range a b h rest

-- so that bytes begin with one record at most, and two records with the same bytes say the same
pub first-once : (s t : Survey) → Fits s → Fits t → (x y : List ℕ) → encode s ++ x ≡ encode t ++ y → s ≡ t
first-once s t p q x y e = sym (decode-encode s p x) ∙ ap decode e ∙ decode-encode t q y

pub written_once : (s t : Survey) → Fits s → Fits t → encode s ≡ encode t → s ≡ t
written_once s t p q e = first-once s t p q [] [] (ap (◌++ []) e)
