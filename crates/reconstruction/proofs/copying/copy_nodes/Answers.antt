-- What is left to show of `copy_nodes`.
use Rattle.std.proofs.Common.{List, subst, sym}
use Rattle.reconstruction.specs.declared.copying.Uncopied.{Uncopied}
use Rattle.reconstruction.specs.Copying.{AreUncopied}
use Rattle.reconstruction.proofs.Copied.{keeps_behind, keeps_same}
use Rattle.reconstruction.proofs.Wanted.{has_place}
use Rattle.reconstruction.proofs.copying.copy_nodes.Goals as goal

pub copy_each-requires-clause-room : goal.copy_each-requires-clause-room
copy_each-requires-clause-room g c =
    has_place c.args.table.now.graph c.as_slice.result.now c.make_room.new.copies.items c.as_slice-2.result.now c.key_end.result
    (subst (λ (list : List Uncopied). AreUncopied c.args.table.now.graph c.as_slice.result.now list) (sym c.as_slice-2.ensures.value)
    c.in_ok-uncopied.ensures.uncopied) c.key_end.ensures c.in_ok-make_room.ensures.room

pub returns-in_err-make_room-clause-kept : goal.returns-in_err-make_room-clause-kept
returns-in_err-make_room-clause-kept g c = keeps_same c.args.copies.now.items c.make_room.new.copies.items c.make_room.ensures.same

pub returns-in_err-marks-clause-kept : goal.returns-in_err-marks-clause-kept
returns-in_err-marks-clause-kept g c = keeps_same c.args.copies.now.items c.make_room.new.copies.items c.make_room.ensures.same

pub returns-in_err-uncopied-clause-kept : goal.returns-in_err-uncopied-clause-kept
returns-in_err-uncopied-clause-kept g c = keeps_same c.args.copies.now.items c.make_room.new.copies.items c.make_room.ensures.same

pub returns-clause-kept : goal.returns-clause-kept
returns-clause-kept g c = keeps_behind c.args.copies.now.items c.make_room.new.copies.items c.copy_each.new.copies.items
    c.make_room.ensures.same c.copy_each.ensures.kept
