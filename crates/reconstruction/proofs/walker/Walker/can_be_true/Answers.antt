-- What is left to show of `can_be_true`.
use Rattle.std.proofs.Common.{◌<◌, List, sym, subst}
use Rattle.cnf_base.specs.Truth.{assignment_of}
use Rattle.reconstruction.specs.declared.ranks.Rank.{Rank}
use Rattle.reconstruction.specs.Entries.{variables_of}
use Rattle.reconstruction.specs.Ranks.{rank_of}
use Rattle.reconstruction.specs.Way.{live}
use Rattle.reconstruction.proofs.Ranked.{among_each}
use Rattle.reconstruction.proofs.OneWalk.{IsRanking, can_all}
use Rattle.reconstruction.proofs.Ways.{are_live}
use Rattle.reconstruction.proofs.walker.Walker.can_be_true.Goals as goal

pub returns-clause-can : goal.returns-clause-can
returns-clause-can c =
    let xs = variables_of c.args.later.now in
    let round = c.ready.new.self.round in
    let ranking : IsRanking (rank_of c.deref.result.now round) xs =
    subst (λ (l : List Rank). IsRanking (rank_of l round) xs) (sym c.deref.ensures.value) (record {
      some = among_each (λ v. 0 < v) c.args.later.now (λ entry there. (c.requires.variables entry there).0);
      ranked = c.rank_all.ensures.ranked;
      others = c.rank_all.ensures.others;
    }) in
    can_all c.args.cells.now c.requires.ordered c.args.key c.requires.free c.requires.within
    (rank_of c.deref.result.now round) xs ranking (assignment_of c.args.values.now) (live c.find_way.new.marks.items round)
    (are_live c.find_way.new.marks.items round) c.find_way.new.path.items c.find_way.result c.find_way.ensures.found c.find_way.ensures.none
