-- The others stay.
use Rattle.std.proofs.Common.{◌≡◌, ℕ, List, sym, ap, ◌∙◌, nat_eq}
use Rattle.std.specs.Prelude.{slice_index}
use Rattle.drat_checker.proofs.numbers.Numbers.forget.Goals as goal

pub returns-in-Some-clause-kept : goal.returns-in-Some-clause-kept
returns-in-Some-clause-kept c = λ other apart listed.
    let own : slice_index c.args.self.now c.in-Some.place ≡ c.args.number =
    ap (λ (l : List ℕ). slice_index l c.in-Some.place) (sym (c.as_slice.ensures.value ∙ c.self.view_is)) ∙ c.in-Some.ensures.1 in
    c.drop_at.ensures.kept other (ap (nat_eq other) own ∙ apart) listed
