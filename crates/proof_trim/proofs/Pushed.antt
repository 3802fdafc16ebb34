-- Items that are pushed in turn: the last of them is on top.
use Rattle.std.proofs.Common.{◌≡◌, ℕ, ◌+◌, ◌<◌, ◌≤◌, List, [], ◌∷◌, ◌++◌, take, drop, length, refl, sym, ap, ◌∙◌, append_assoc, inl, inr}
use Rattle.std.specs.Prelude.{map, reverse, get_or}
use Rattle.std.specs.List.{flat_map}
use Rattle.std.proofs.lemmas.Bool.{cases_lt}
use Rattle.std.proofs.lemmas.List.{drop_all, map-append, reverse-append, take_all, take_more}
use Rattle.cnf_base.specs.declared.list.Group.{Group}
use Rattle.lrat_checker.specs.Cuts.{groups_by}
use Rattle.proof_trim.specs.Packed.{group_codes}

-- one more item that gives one number
pub one_pushed : {X : Type 0} (f : X → ℕ) (xs : List X) (i : ℕ) (x : X) (below row now : List ℕ) → i < length xs
    → row ≡ reverse (map f (take i xs)) ++ below → get_or xs i x ≡ x → now ≡ f x ∷ row
    → now ≡ reverse (map f (take (i + 1) xs)) ++ below
one_pushed {X = X} f xs i x below row now inside so_far at put =
    put ∙ ap (λ (l : List ℕ). f x ∷ l) so_far
    ∙ sym (ap (λ (l : List X). reverse (map f l) ++ below) (take_more xs i x inside)
    ∙ ap (λ (l : List ℕ). reverse l ++ below) (map-append f (take i xs) (get_or xs i x ∷ []))
    ∙ ap (λ (l : List ℕ). l ++ below) (reverse-append (map f (take i xs)) (f (get_or xs i x) ∷ []))
    ∙ ap (λ (y : X). f y ∷ (reverse (map f (take i xs)) ++ below)) at)

-- all of them were
pub all_pushed : {X : Type 0} (f : X → ℕ) (xs : List X) (i : ℕ) (below row : List ℕ) → row ≡ reverse (map f (take i xs)) ++ below
    → length xs ≤ i → row ≡ reverse (map f xs) ++ below
all_pushed {X = X} f xs i below row so_far end = so_far ∙ ap (λ (l : List X). reverse (map f l) ++ below) (take_all i xs end)

-- one more group, with so many of its hints
pub one_group : (group : Group) (groups rest : List Group) (count : ℕ) (counts more row now whole : List ℕ)
    → reverse (flat_map group_codes (groups_by groups counts)) ++ row ≡ whole → groups ≡ group ∷ rest → counts ≡ count ∷ more
    → now ≡ reverse (group_codes (record { id = group.id; hints = take count group.hints })) ++ row
    → reverse (flat_map group_codes (groups_by rest more)) ++ now ≡ whole
one_group group groups rest count counts more row now whole so_far turn counted put =
    let first : List ℕ = group_codes (record { id = group.id; hints = take count group.hints }) in
    let later : List ℕ = flat_map group_codes (groups_by rest more) in
    ap (λ (l : List ℕ). reverse later ++ l) put
    ∙ sym (append_assoc (reverse later) (reverse first) row)
    ∙ ap (λ (l : List ℕ). l ++ row) (sym (reverse-append first later))
    ∙ sym (λ i. reverse (flat_map group_codes (groups_by (turn i) (counted i))) ++ row) ∙ so_far

without_counts : (groups : List Group) → groups_by groups [] ≡ []
without_counts [] = refl
without_counts (group ∷ groups) = refl

-- where the groups or the counts end, all were pushed
pub all_groups : (groups : List Group) (counts : List ℕ) (i : ℕ) (row whole : List ℕ)
    → reverse (flat_map group_codes (groups_by (drop i groups) (drop i counts))) ++ row ≡ whole → (i < length groups → length counts ≤ i)
    → row ≡ whole
all_groups groups counts i row whole so_far ends =
    elim (cases_lt i (length groups)) [
      | inl short ↦ sym (ap (λ (l : List Group). reverse (flat_map group_codes l) ++ row)
          (ap (groups_by (drop i groups)) (drop_all i counts (ends short)) ∙ without_counts (drop i groups))) ∙ so_far
      | inr end ↦ sym (ap (λ (l : List Group). reverse (flat_map group_codes (groups_by l (drop i counts))) ++ row) (drop_all i groups
          end)) ∙ so_far
    ]

-- an own code, and those of a list behind it
pub led_pushed : (code : ℕ) (codes below row now : List ℕ) → row ≡ code ∷ below → now ≡ reverse codes ++ row
    → now ≡ reverse (code ∷ codes) ++ below
led_pushed code codes below row now first behind =
    behind ∙ ap (λ (l : List ℕ). reverse codes ++ l) first ∙ sym (append_assoc (reverse codes) (code ∷ []) below)
    ∙ ap (λ (l : List ℕ). l ++ below) (sym (reverse-append (code ∷ []) codes))

-- the parts of an addition, and of a deletion
pub addition_pushed : (kind id : ℕ) (clause hints groups below first second third fourth fifth now : List ℕ) → first ≡ 0 ∷ below
    → second ≡ reverse clause ++ first → third ≡ 0 ∷ second → fourth ≡ reverse hints ++ third → fifth ≡ reverse groups ++ fourth
    → now ≡ kind ∷ id ∷ fifth
    → now ≡ (kind ∷ id ∷ (reverse (hints ++ groups) ++ 0 ∷ (reverse clause ++ 0 ∷ []))) ++ below
addition_pushed kind id clause hints groups below first second third fourth fifth now a b c e f g =
    g ∙ ap (λ (l : List ℕ). kind ∷ id ∷ l)
    (f ∙ ap (λ (l : List ℕ). reverse groups ++ l)
    (e ∙ ap (λ (l : List ℕ). reverse hints ++ l) (c ∙ ap (λ (l : List ℕ). 0 ∷ l) (b ∙ ap (λ (l : List ℕ). reverse clause ++ l) a)))
    ∙ sym (append_assoc (reverse groups) (reverse hints) (0 ∷ (reverse clause ++ 0 ∷ below)))
    ∙ ap (λ (l : List ℕ). l ++ 0 ∷ (reverse clause ++ 0 ∷ below)) (sym (reverse-append hints groups))
    ∙ ap (λ (l : List ℕ). reverse (hints ++ groups) ++ 0 ∷ l) (sym (append_assoc (reverse clause) (0 ∷ []) below))
    ∙ sym (append_assoc (reverse (hints ++ groups)) (0 ∷ (reverse clause ++ 0 ∷ [])) below))

pub deletion_pushed : (kind id : ℕ) (codes below first second now : List ℕ) → first ≡ 0 ∷ below → second ≡ reverse codes ++ first
    → now ≡ kind ∷ id ∷ second → now ≡ (kind ∷ id ∷ (reverse codes ++ 0 ∷ [])) ++ below
deletion_pushed kind id codes below first second now a b c =
    c ∙ ap (λ (l : List ℕ). kind ∷ id ∷ l)
    (b ∙ ap (λ (l : List ℕ). reverse codes ++ l) a ∙ sym (append_assoc (reverse codes) (0 ∷ []) below))
