-- A node in its slot: the tree of two grown children is grown where its slot fits them, and a grown tree's slot fits
-- and its children are grown. Given words have one tree in a slot at most. Assumes nothing.
use Prim.Native.Nat.{ℕ, suc, ◌+◌, ◌*◌, ◌%◌, ◌/◌, ◌≤◌, ◌<◌, max}
use mathlib.Core.Bool.{true}
use mathlib.Core.List.{List, [], ◌∷◌}
use mathlib.Core.Path.{◌≡◌, refl, sym, ap, ◌∙◌}
use native.Mathlib.Omega.{arith}
use lib.ListN.{length}
use borrow.Author.Tests.{le-leb, leb-true}
use Rattle.rules.specs.Limits.{most_slots, slot_words, half}
use Rattle.rules.specs.Tree.{Entry, Tree, node, levels, size, entries, root}
use Rattle.rules.specs.Pool.{balanced, times, slots}
use Rattle.rules.specs.Held.{entry_at}
use Rattle.rules.specs.Stored.{slot_word, Within, Bears, Links, Stored, none, live, Distinct, Rooted}
use Rattle.rules.proofs.Tests.{and_true, true_and}
use Rattle.rules.proofs.Times.{times-node}
use Rattle.rules.proofs.Reading.{low_half, high_half, root-fits, entry_read, tree-read}
use Rattle.node.proofs.Trees.{at_root}
use Rattle.clauses.specs.Slot.{bound}
use Rattle.fitting.specs.Fits.{left_in, right_in}
use Rattle.sound.specs.Claims.{Grown}
use Rattle.clauses.proofs.Bounds.{bound_some}
use Rattle.sound.proofs.Split.{join_order, split_order}
use Rattle.fitting.proofs.Nodes.{Fitting}

-- a stored entry is a bound
bound-entry : {ss : List ℕ} {e : Entry} → Bears ss e → bound ss e.slot ≡ e ∷ []
bound-entry {ss} {e} b =
    bound_some ss e.slot (λ z. omega (arith, b.at.from_one)) ∙ ap (λ x. x ∷ []) (entry_read b)

-- a word is its halves
halves : (w a b : ℕ) → w % half ≡ a → w / half ≡ b → w ≡ a + half * b
halves w a b p q = omega arith

module _ {ss : List ℕ} {k before after : ℕ} (w : Within ss k) (f : Fitting ss k) where
  -- two children grown around the entry in slot k
  module _ {a b : Tree} (l : Grown ss (left_in ss k) before k a) (r : Grown ss (right_in ss k) k after b) where
    grown_links : Links ss (entry_at ss k) a b
    grown_links =
        let la = at_root l.rooted in
        let rb = at_root r.rooted in
        record {
          max_word = f.max_is ∙ rw (la.max_is, rb.max_is) refl;
          links_word = rw (l.rooted.rooted, r.rooted.rooted) (halves (slot_word ss k 4) _ _ refl refl);
          shape_word =
              halves (slot_word ss k 5) (max (levels a) (levels b)) (suc (size a + size b))
              (f.height_is ∙ rw (la.levels_is, rb.levels_is) refl)
              (f.size_is ∙ rw (la.size_is, rb.size_is) (omega arith));
        }

    grown_even : balanced (node (entry_at ss k) a b) ≡ true
    grown_even =
        let la = at_root l.rooted in
        let rb = at_root r.rooted in
        true_and
        (true_and (le-leb (levels a) (suc (levels b)) (omega (arith, f.left_low, la.levels_is, rb.levels_is)))
        (le-leb (levels b) (suc (levels a)) (omega (arith, f.right_low, la.levels_is, rb.levels_is))))
        (true_and l.even r.even)

    pub grown_node : Distinct (slots (node (entry_at ss k) a b)) → Grown ss k before after (node (entry_at ss k) a b)
    grown_node distinct =
        record {
          rooted =
              record {
                room = l.rooted.room;
                stored =
                    live {e = entry_at ss k} {l = a} {r = b}
                    (record { at = w; start_word = refl; end_word = refl; value_word = refl }) grown_links
                    l.rooted.stored r.rooted.stored;
                distinct = distinct;
                rooted = refl;
              };
          even = grown_even;
          in_order =
              let own = bound_some ss k (λ z. omega (arith, w.from_one)) in
              join_order (bound ss before) (entries a) (entry_at ss k) (entries b) (bound ss after)
              (rw own at l.in_order) (rw own at r.in_order);
        }

-- what a grown tree in slot k is made of
pub record Parts (ss : List ℕ) (k before after : ℕ) (t : Tree) : Type 0 where
  pub left : Tree
  pub right : Tree
  pub left_grown : Grown ss (left_in ss k) before k left
  pub right_grown : Grown ss (right_in ss k) k after right
  pub fitting : Fitting ss k
  pub counts : (s : ℕ) → times s (slots t) ≡ times s (k ∷ []) + (times s (slots left) + times s (slots right))

-- a grown tree whose entry e stands in its slot
module _ {ss : List ℕ} {before after : ℕ} {e : Entry} {l r : Tree} (g : Grown ss e.slot before after (node e l r))
    (bears : Bears ss e) (links : Links ss e l r) (left : Stored ss l) (right : Stored ss r) where
  left_fits : root l < half
  left_fits = root-fits left g.rooted.room

  left_rooted : Rooted ss (left_in ss e.slot) l
  left_rooted =
      record {
        room = g.rooted.room;
        stored = left;
        distinct = record { once = λ s. omega (arith, g.rooted.distinct.once s, times-node s e l r) };
        rooted = sym (low_half (slot_word ss e.slot 4) (root l) (root r) links.links_word left_fits);
      }

  right_rooted : Rooted ss (right_in ss e.slot) r
  right_rooted =
      record {
        room = g.rooted.room;
        stored = right;
        distinct = record { once = λ s. omega (arith, g.rooted.distinct.once s, times-node s e l r) };
        rooted = sym (high_half (slot_word ss e.slot 4) (root l) (root r) links.links_word left_fits);
      }

  even_parts : (levels l ≤ suc (levels r)) × (levels r ≤ suc (levels l)) × (balanced l ≡ true) × (balanced r ≡ true)
  even_parts =
      let both = and_true _ _ g.even in
      let factor = and_true _ _ both.0 in
      let below = and_true _ _ both.1 in
      (leb-true _ _ factor.0, leb-true _ _ factor.1, below.0, below.1)

  node_fitting : Fitting ss e.slot
  node_fitting =
      let la = at_root left_rooted in
      let rb = at_root right_rooted in
      let even = even_parts in
      let shape = slot_word ss e.slot 5 in
      let high = max (levels l) (levels r) in
      let small : high < half = omega (arith, la.low, rb.low) in
      record {
        left_at = la.inside;
        right_at = rb.inside;
        left_low = omega (arith, la.levels_is, rb.levels_is, even.0);
        right_low = omega (arith, la.levels_is, rb.levels_is, even.1);
        height_is =
            low_half shape high (size (node e l r)) links.shape_word small ∙ rw (la.levels_is, rb.levels_is) refl;
        size_is =
            high_half shape high (size (node e l r)) links.shape_word small
            ∙ rw (la.size_is, rb.size_is) (omega arith);
        max_is = links.max_word ∙ rw (bears.end_word, la.max_is, rb.max_is) refl;
      }

  node_parts : Parts ss e.slot before after (node e l r)
  node_parts =
      let order = split_order (bound ss before) (entries l) e (entries r) (bound ss after) g.in_order in
      let own = bound-entry bears in
      record {
        left = l;
        right = r;
        left_grown = record { rooted = left_rooted; even = even_parts.2; in_order = rw own order.0 };
        right_grown = record { rooted = right_rooted; even = even_parts.3; in_order = rw own order.1 };
        fitting = node_fitting;
        counts = λ s. times-node s e l r;
      }

-- a grown tree in a slot is a node, its slot fits, and its children are grown around it
pub grown_parts : {ss : List ℕ} {k before after : ℕ} {t : Tree} → 1 ≤ k → Grown ss k before after t
    → Parts ss k before after t
grown_parts {ss} {k} {before} {after} {t} low g = go g.rooted.stored g.rooted.rooted g
  where
    go : {u : Tree} → Stored ss u → root u ≡ k → Grown ss k before after u → Parts ss k before after u
    go none z = λ h. absurd (omega arith)
    go (live {e} {l} {r} b links p q) z = rw (← z) (λ h. node_parts h b links p q)

-- given words have one tree in a slot at most
pub stored-once : {ss : List ℕ} {t u : Tree} → length ss ≤ slot_words * most_slots → Stored ss t → Stored ss u
    → root t ≡ root u → t ≡ u
stored-once {ss} {t} {u} room p q same =
    let n : ℕ = levels t + levels u in
    sym (tree-read n p room (omega arith)) ∙ rw same (tree-read n q room (omega arith))
