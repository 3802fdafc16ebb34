-- What is left to show of `copy_each`.
use Rattle.std.proofs.Common.{◌≡◌, ◌∙◌, ◌+◌, ◌-◌, ◌<◌, ℕ, length, subst, ap, arith}
use Rattle.std.specs.Prelude.{slice_index_or}
use Rattle.std.proofs.lemmas.List.{length-set}
use Rattle.std.proofs.lemmas.List.Elements.{Contains-get_or}
use Rattle.reconstruction.specs.declared.copying.Uncopied.{Uncopied}
use Rattle.reconstruction.proofs.Copied.{copied, others_keep}
use Rattle.reconstruction.proofs.Each.{AreDone, all_done, children, done_more, none_done}
use Rattle.reconstruction.proofs.copying.copy_each.Goals as goal

abbrev none : Uncopied
none = record { level = 0; key = 0 }

pub nodes-init : goal.nodes-init
nodes-init g c = none_done c.args.table.now.graph c.args.cells.now.items c.args.copies.now.items c.args.uncopied.now _ (omega arith)
    c.requires.sound c.requires.copies

pub copy_node-requires-clause-stands : goal.copy_node-requires-clause-stands
copy_node-requires-clause-stands g c = c.requires.uncopied.stand (slice_index_or c.args.uncopied.now (c.nodes.place - 1) none)
    (Contains-get_or c.args.uncopied.now (c.nodes.place - 1) none (omega arith))

pub copy_node-requires-clause-room : goal.copy_node-requires-clause-room
copy_node-requires-clause-room g c =
    let small = c.requires.room (slice_index_or c.args.uncopied.now (c.nodes.place - 1) none)
    (Contains-get_or c.args.uncopied.now (c.nodes.place - 1) none (omega arith)) in
    omega (arith, small, c.nodes.invariant.room)

pub nodes-preserved : goal.nodes-preserved
nodes-preserved g c =
    let graph = c.args.table.now.graph in
    let before = c.args.cells.now.items in
    let held = c.args.copies.now.items in
    let uncopied = c.args.uncopied.now in
    let place = c.nodes.place - 1 in
    let cells = c.nodes.cells.items in
    let now = c.nodes.copies.items in
    let inside : place < length uncopied = omega arith in
    let more : c.nodes.place ≡ place + 1 = omega arith in
    let reduced = c.table_law.ensures.reduced in
    let are = c.requires.uncopied in
    let done = subst (λ (n : ℕ). AreDone graph before held uncopied n cells now) more c.nodes.invariant in
    let key = (slice_index_or uncopied place none).key in
    let small = c.requires.room (slice_index_or uncopied place none) (Contains-get_or uncopied place none inside) in
    let is = c.in_ok-copy_node.ensures.ok in
    done_more graph reduced before held uncopied are place inside none cells now done c.copy_node.new.cells.items c.copy_node.new.copies.items
    (ap length is.known ∙ length-set now key (length cells + 2))
    (others_keep graph cells now key c.copy_node.new.cells.items c.copy_node.new.copies.items is)
    (copied c.cofactor_law.ensures graph reduced c.table_law.ensures.ordered cells now done.copies.sound done.copies.are key
    (omega (arith, small, c.nodes.invariant.room)) (children graph reduced before held uncopied are place inside none cells now done)
    c.copy_node.new.cells.items c.copy_node.new.copies.items c.copy_node.ensures.few is)

pub returns-clause-all : goal.returns-clause-all
returns-clause-all g c =
    let none_left : c.nodes.place ≡ 0 = omega arith in
    all_done c.args.table.now.graph c.args.cells.now.items c.args.copies.now.items c.args.uncopied.now c.nodes.cells.items
    c.nodes.copies.items
    (subst (λ (n : ℕ). AreDone c.args.table.now.graph c.args.cells.now.items c.args.copies.now.items c.args.uncopied.now n
    c.nodes.cells.items c.nodes.copies.items) none_left c.nodes.invariant)
