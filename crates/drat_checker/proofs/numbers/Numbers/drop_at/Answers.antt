-- The other numbers stay, and those in front where they stand.
use Rattle.std.proofs.Common.{◌≡◌, ◌<◌, true, ℕ, List, length, take, nat_eq, sym, ap, ◌∙◌, subst, arith}
use Rattle.std.specs.Prelude.{slice_index}
use Rattle.drat_checker.specs.Numbers.{has_number}
use Rattle.drat_checker.proofs.Dropped.{dropped-front, dropped-kept}
use Rattle.drat_checker.proofs.numbers.Numbers.drop_at.Goals as goal

pub returns-clause-front : goal.returns-clause-front
returns-clause-front c =
    let old = c.self.inside.numbers.items in
    let within : c.args.place < length old = omega (arith, c.requires, ap length c.self.view_is) in
    ap (take c.args.place) c.swap_remove.ensures.items ∙ dropped-front old c.args.place c.swap_remove.result within
    ∙ ap (take c.args.place) c.self.view_is

pub returns-clause-kept : goal.returns-clause-kept
returns-clause-kept c = λ number apart listed.
    let old = c.self.inside.numbers.items in
    let within : c.args.place < length old = omega (arith, c.requires, ap length c.self.view_is) in
    subst (λ (l : List ℕ). has_number number l ≡ true) (sym c.swap_remove.ensures.items)
    (dropped-kept old c.args.place c.swap_remove.result within number
    (ap (λ (l : List ℕ). nat_eq number (slice_index l c.args.place)) c.self.view_is ∙ apart)
    (ap (has_number number) c.self.view_is ∙ listed))
