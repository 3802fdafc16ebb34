-- What is left to show of `Kept::push`.
use Rattle.std.proofs.Common.{◌≡◌, ◌++◌, ◌∷◌, [], Some, length, ◌∙◌, ap, arith}
use Rattle.clause_ledger.specs.Kept.{KeptClauses}
use Rattle.clause_ledger.proofs.Places.{are_kept-push, places-put}
use Rattle.clause_ledger.proofs.kept.Kept.push.Goals as goal

pub returns-clause-kept : goal.returns-clause-kept
returns-clause-kept c state are =
    let literals = c.self.inside.literals.items in
    let clause = c.args.clause.now in
    let size = ap length c.make_room.ensures.literals in
    let start : c.len-start.result ≡ length literals = omega (arith, c.len-start.ensures, c.make_room.new.literals.ok.0, size) in
    are_kept-push c.live_law.ensures state c.args.self.now clause are
    (places-put literals clause c.self.inside.spans.items c.self.invariant.0 c.push_reserved.ensures.items c.make_room.ensures.spans
    c.copy.ensures.items c.make_room.ensures.literals start
    ∙ ap (λ (k : KeptClauses). k.places ++ Some clause ∷ []) c.self.view_is)
