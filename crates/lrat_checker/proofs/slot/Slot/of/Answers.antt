-- The places up to the clause's length hold its literals.
use Rattle.std.proofs.Common.{◌≡◌, ℕ, ◌-◌, ◌<◌, ◌≤◌, min, List, [], ◌∷◌, length, get_or, ℤ, Some, ◌∙◌, ap, arith}
use Rattle.lrat_checker.specs.Clauses.{clause_in}
use Rattle.lrat_checker.proofs.slot.Slot.of.Goals as goal

holds : (clause : List ℤ) (a b c d : ℤ) (i j : ℕ) → 0 < length clause → length clause ≤ 4 → a ≡ get_or clause 0 a
    → i ≡ min (length clause - 1) 1 → b ≡ get_or clause i b → j ≡ min (length clause - 1) 2 → c ≡ get_or clause j c
    → d ≡ get_or clause (length clause - 1) d → clause_in (record { len = length clause; literals = a ∷ b ∷ c ∷ d ∷ [] }) ≡ Some clause
holds [] a b c d i j some few a_is i_is b_is j_is c_is d_is = absurd (omega (arith, some))
holds (w ∷ []) a b c d i j some few a_is i_is b_is j_is c_is d_is = ap (λ l. Some (l ∷ [])) a_is
holds (w ∷ x ∷ []) a b c d i j some few a_is i_is b_is j_is c_is d_is =
    let one : i ≡ 1 = omega (arith, i_is) in
    let second : b ≡ x = b_is ∙ ap (λ n. get_or (w ∷ x ∷ []) n b) one in
    ap (λ l. Some (l ∷ b ∷ [])) a_is ∙ ap (λ l. Some (w ∷ l ∷ [])) second
holds (w ∷ x ∷ y ∷ []) a b c d i j some few a_is i_is b_is j_is c_is d_is =
    let one : i ≡ 1 = omega (arith, i_is) in
    let two : j ≡ 2 = omega (arith, j_is) in
    let second : b ≡ x = b_is ∙ ap (λ n. get_or (w ∷ x ∷ y ∷ []) n b) one in
    let third : c ≡ y = c_is ∙ ap (λ n. get_or (w ∷ x ∷ y ∷ []) n c) two in
    ap (λ l. Some (l ∷ b ∷ c ∷ [])) a_is ∙ ap (λ l. Some (w ∷ l ∷ c ∷ [])) second ∙ ap (λ l. Some (w ∷ x ∷ l ∷ [])) third
holds (w ∷ x ∷ y ∷ z ∷ []) a b c d i j some few a_is i_is b_is j_is c_is d_is =
    let one : i ≡ 1 = omega (arith, i_is) in
    let two : j ≡ 2 = omega (arith, j_is) in
    let second : b ≡ x = b_is ∙ ap (λ n. get_or (w ∷ x ∷ y ∷ z ∷ []) n b) one in
    let third : c ≡ y = c_is ∙ ap (λ n. get_or (w ∷ x ∷ y ∷ z ∷ []) n c) two in
    ap (λ l. Some (l ∷ b ∷ c ∷ d ∷ [])) a_is ∙ ap (λ l. Some (w ∷ l ∷ c ∷ d ∷ [])) second
    ∙ ap (λ l. Some (w ∷ x ∷ l ∷ d ∷ [])) third ∙ ap (λ l. Some (w ∷ x ∷ y ∷ l ∷ [])) d_is
holds (v ∷ w ∷ x ∷ y ∷ z ∷ more) a b c d i j some few a_is i_is b_is j_is c_is d_is = absurd (omega (arith, few))

pub returns : goal.returns
returns c =
    let some : 0 < length c.args.clause.now = omega (arith, c.if-len-eq0.false) in
    holds c.args.clause.now c.index-clause-0.result c.index-clause-min.result c.index-clause-min-2.result c.index-clause-last.result
    c.min.result c.min-2.result some c.if-len-gt4.false c.index-clause-0.is c.min.ensures c.index-clause-min.is c.min-2.ensures
    c.index-clause-min-2.is c.index-clause-last.is
