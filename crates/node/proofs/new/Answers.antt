-- `new` stores a node of its own. Assumes nothing.
use Rattle.rules.specs.Tree.{leaf}
use Rattle.node.specs.Node.{entry}
use Rattle.node.proofs.Made.{hung-entry, made}
use Rattle.node.proofs.new.Goals as goal

pub update-requires : goal.update-requires
update-requires c =
    let a = c.args in
    let r = a.range in (
      entry a.k r.start r.end a.value,
      leaf,
      leaf,
      rw c.set_words.ensures (hung-entry r.start r.end a.value c.requires),
    )

pub returns : goal.returns
returns c =
    let a = c.args in
    let r = a.range in
    let hung = hung-entry r.start r.end a.value c.requires in
    made r.start r.end a.value c.requires
    (rw c.set_words.ensures at (c.update.ensures (entry a.k r.start r.end a.value) leaf leaf (rw c.set_words.ensures hung)))
