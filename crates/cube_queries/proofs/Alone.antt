-- A term that is out alone, or behind another one, and the release of one of them.
use Rattle.std.proofs.Common.{◌≡◌, ◌≢◌, ◌⊎◌, ◌∙◌, ◌++◌, List, [], ◌∷◌, Contains, refl, sym, ap, subst, arith, inl, inr}
use Rattle.node_table.specs.declared.node.Node.TheVariants.{True}
use Rattle.bdd_terms.specs.declared.held.HeldTerm.{HeldTerm}
use Rattle.bdd_terms.specs.declared.runner.Runner.{Runner}
use Rattle.bdd_terms.specs.Runner.{IsGood, IsListed, IsWithout, true_term}

-- one element of a short list is taken out
one_of_one : (x y : HeldTerm) (front behind : List HeldTerm) → x ∷ [] ≡ front ++ y ∷ behind → front ++ behind ≡ []
one_of_one x y [] behind is = cc
one_of_one x y (f ∷ []) behind is = cc
one_of_one x y (f ∷ g ∷ front) behind is = cc

first_of_two : (x y : HeldTerm) (front behind : List HeldTerm) → x ∷ y ∷ [] ≡ front ++ x ∷ behind → front ++ behind ≡ y ∷ []
first_of_two x y [] behind is = cc
first_of_two x y (f ∷ []) behind is = cc
first_of_two x y (f ∷ g ∷ []) behind is = cc
first_of_two x y (f ∷ g ∷ h ∷ front) behind is = cc

second_of_two : (x y : HeldTerm) (front behind : List HeldTerm) → x ∷ y ∷ [] ≡ front ++ y ∷ behind → front ++ behind ≡ x ∷ []
second_of_two x y [] behind is = cc
second_of_two x y (f ∷ []) behind is = cc
second_of_two x y (f ∷ g ∷ []) behind is = cc
second_of_two x y (f ∷ g ∷ h ∷ front) behind is = cc

second_of_three : (x y z : HeldTerm) (front behind : List HeldTerm) → x ∷ y ∷ z ∷ [] ≡ front ++ y ∷ behind → front ++ behind ≡ x ∷ z ∷ []
second_of_three x y z [] behind is = cc
second_of_three x y z (f ∷ []) behind is = cc
second_of_three x y z (f ∷ g ∷ []) behind is = cc
second_of_three x y z (f ∷ g ∷ h ∷ []) behind is = cc
second_of_three x y z (f ∷ g ∷ h ∷ i ∷ front) behind is = cc

-- what a release leaves of a list
abbrev pub Leaves : HeldTerm → List HeldTerm → List HeldTerm → Type 0
Leaves held before after = ((held ≡ true_term) × (after ≡ before)) ⊎ ((held.node ≢ True) × IsWithout held before after)

is_true : (held : HeldTerm) → held ≡ true_term → held.node ≡ True
is_true held is = ap (λ (h : HeldTerm). h.node) is

-- the only one
pub released_alone : (held : HeldTerm) (before after : List HeldTerm) → IsListed [] before held → Leaves held before after → after ≡ []
released_alone held before after (inl none) (inl same) = same.1 ∙ none.1
released_alone held before after (inl none) (inr out) = absurd (out.0 (is_true held none.0))
released_alone held before after (inr one) (inl same) = absurd (one.0 (is_true held same.0))
released_alone held before after (inr one) (inr out) =
    out.1.is ∙ one_of_one held held out.1.front out.1.behind (sym one.1 ∙ out.1.was)

-- the first of two
pub released_first : (u w : HeldTerm) (own before after : List HeldTerm) → IsListed [] own u → IsListed own before w → Leaves u before after
    → IsListed [] after w
released_first u w own before after (inl none) listed (inl same) =
    subst (λ (l : List HeldTerm). IsListed [] l w) (sym same.1) (subst (λ (l : List HeldTerm). IsListed l before w) none.1 listed)
released_first u w own before after (inl none) listed (inr out) = absurd (out.0 (is_true u none.0))
released_first u w own before after (inr one) listed (inl same) = absurd (one.0 (is_true u same.0))
released_first u w own before after (inr one) (inl none) (inr out) =
    inl (none.0, out.1.is ∙ one_of_one u u out.1.front out.1.behind (sym one.1 ∙ sym none.1 ∙ out.1.was))
released_first u w own before after (inr one) (inr more) (inr out) =
    let list : before ≡ u ∷ w ∷ [] = more.1 ∙ ap (λ (l : List HeldTerm). l ++ w ∷ []) one.1 in
    inr (more.0, out.1.is ∙ first_of_two u w out.1.front out.1.behind (sym list ∙ out.1.was))

-- the one in the middle
pub released_middle : (u v w : HeldTerm) (own with before after : List HeldTerm) → IsListed [] own u → IsListed own with v
    → IsListed with before w → Leaves v before after → IsListed own after w
released_middle u v w own with before after alone (inl none) listed (inl same) =
    subst (λ (l : List HeldTerm). IsListed own l w) (sym same.1) (subst (λ (l : List HeldTerm). IsListed l before w) none.1 listed)
released_middle u v w own with before after alone (inl none) listed (inr out) = absurd (out.0 (is_true v none.0))
released_middle u v w own with before after alone (inr one) listed (inl same) = absurd (one.0 (is_true v same.0))
released_middle u v w own with before after (inl none) (inr one) (inl same) (inr out) =
    let list : before ≡ v ∷ [] = same.1 ∙ one.1 ∙ ap (λ (l : List HeldTerm). l ++ v ∷ []) none.1 in
    inl (same.0, out.1.is ∙ one_of_one v v out.1.front out.1.behind (sym list ∙ out.1.was) ∙ sym none.1)
released_middle u v w own with before after (inl none) (inr one) (inr more) (inr out) =
    let list : before ≡ v ∷ w ∷ [] = more.1 ∙ ap (λ (l : List HeldTerm). l ++ w ∷ []) (one.1 ∙ ap (λ (l : List HeldTerm). l ++ v
    ∷ []) none.1) in
    inr (
      more.0,
      out.1.is ∙ first_of_two v w out.1.front out.1.behind (sym list ∙ out.1.was) ∙ ap (λ (l : List HeldTerm). l ++ w
          ∷ []) (sym none.1),
    )
released_middle u v w own with before after (inr first) (inr one) (inl same) (inr out) =
    let list : before ≡ u ∷ v ∷ [] = same.1 ∙ one.1 ∙ ap (λ (l : List HeldTerm). l ++ v ∷ []) first.1 in
    inl (same.0, out.1.is ∙ second_of_two u v out.1.front out.1.behind (sym list ∙ out.1.was) ∙ sym first.1)
released_middle u v w own with before after (inr first) (inr one) (inr more) (inr out) =
    let list : before ≡ u ∷ v ∷ w ∷ [] =
    more.1 ∙ ap (λ (l : List HeldTerm). l ++ w ∷ []) (one.1 ∙ ap (λ (l : List HeldTerm). l ++ v ∷ []) first.1) in
    inr (
      more.0,
      out.1.is ∙ second_of_three u v w out.1.front out.1.behind (sym list ∙ out.1.was)
          ∙ ap (λ (l : List HeldTerm). l ++ w ∷ []) (sym first.1),
    )

-- the second of two, behind nothing
pub released_second : (u v : HeldTerm) (own before after : List HeldTerm) → IsListed [] own u → IsListed own before v
    → Leaves v before after
    → after ≡ own
released_second u v own before after alone (inl none) (inl same) = same.1 ∙ none.1
released_second u v own before after alone (inl none) (inr out) = absurd (out.0 (is_true v none.0))
released_second u v own before after alone (inr one) (inl same) = absurd (one.0 (is_true v same.0))
released_second u v own before after (inl none) (inr one) (inr out) =
    let list : before ≡ v ∷ [] = one.1 ∙ ap (λ (l : List HeldTerm). l ++ v ∷ []) none.1 in
    out.1.is ∙ one_of_one v v out.1.front out.1.behind (sym list ∙ out.1.was) ∙ sym none.1
released_second u v own before after (inr first) (inr one) (inr out) =
    let list : before ≡ u ∷ v ∷ [] = one.1 ∙ ap (λ (l : List HeldTerm). l ++ v ∷ []) first.1 in
    out.1.is ∙ second_of_two u v out.1.front out.1.behind (sym list ∙ out.1.was) ∙ sym first.1

pub alone_good : {S : Type 0} (runner : Runner S) (held : HeldTerm) → IsListed [] runner.terms.out.items held → IsGood runner held
alone_good runner held (inl none) = inl none.0
alone_good runner held (inr one) = inr (subst (λ (l : List HeldTerm). Contains l held) (sym one.1) (0, omega arith, refl))
