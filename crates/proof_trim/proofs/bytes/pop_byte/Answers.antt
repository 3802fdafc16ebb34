-- What is left to show of `pop_byte`.
use Rattle.std.proofs.Common.{◌≡◌, ℕ, List, [], ◌∷◌, sym, subst}
use Rattle.std.specs.Prelude.{IfNone, IfSome}
use Rattle.proof_trim.specs.Row.{stacked}
use Rattle.proof_trim.proofs.Rows.{byte_popped}
use Rattle.proof_trim.proofs.bytes.pop_byte.Goals as goal

pub returns-in-Some-clause-some : goal.returns-in-Some-clause-some
returns-in-Some-clause-some c = byte_popped c.args.full.now.items c.args.last.now c.pop.new.self c.in-Some.byte c.in-Some.ensures.some

pub returns-in-None-clause-some : goal.returns-in-None-clause-some
returns-in-None-clause-some c =
    subst (λ (l : List ℕ). IfSome c.pop_full.result (λ (byte : ℕ). stacked c.args.full.now.items l
    ≡ byte ∷ stacked c.pop_full.new.full.items c.pop_full.new.last)) (sym c.in-None.ensures.none) c.pop_full.ensures.some

pub returns-in-None-clause-none : goal.returns-in-None-clause-none
returns-in-None-clause-none c =
    subst (λ (l : List ℕ). IfNone c.pop_full.result (stacked c.args.full.now.items l ≡ [])) (sym c.in-None.ensures.none)
    c.pop_full.ensures.none
