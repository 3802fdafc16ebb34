-- The numbers of a deletion that are live at their turn, one after another.
use Rattle.std.proofs.Common.{◌≡◌, ℕ, ◌+◌, ◌<◌, suc, ℤ, List, [], ◌∷◌, ◌++◌, length, drop, get_or, refl, sym, ap, ◌∙◌, append_assoc, arith}
use Rattle.std.proofs.Math.Seq.{drop-cons}
use Rattle.std.specs.Prelude.{Option, None, Some}
use Rattle.std.specs.FinMap as map
use Rattle.std.proofs.lemmas.List.{append-nil}
use Rattle.lrat_rules.specs.State.{Live, clause_at, without_clauses}
use Rattle.proof_trim.specs.Trimmed.{id_if_live, live_ids}

pub turn_of : {X : Type 0} (xs : List X) (place : ℕ) (x d : X) → place < length xs → x ≡ get_or xs place d
    → drop place xs ≡ x ∷ drop (place + 1) xs
turn_of {X} xs place x d within is =
    let next : suc place ≡ place + 1 = omega arith in
    drop-cons xs place d within ∙ ap (λ (y : X). y ∷ drop (suc place) xs) (sym is) ∙ ap (λ (n : ℕ). x ∷ drop n xs) next

if_live-onto : (id : ℕ) (place : Option (List ℤ)) (ids : List ℕ) → id_if_live id place ids ≡ id_if_live id place [] ++ ids
if_live-onto id None ids = refl
if_live-onto id (Some clause) ids = refl

-- one number more
pub live_on : (list more : List ℕ) (live next : Live) (id : ℕ) (rest ids whole : List ℕ) → list ++ live_ids live rest ≡ whole
    → rest ≡ id ∷ ids → more ≡ list ++ id_if_live id (clause_at live id) [] → next ≡ map.remove live id
    → more ++ live_ids next ids ≡ whole
live_on list more live next id rest ids whole so_far turn listed removed =
    let behind : List ℕ = live_ids (map.remove live id) ids in
    (λ j. listed j ++ live_ids (removed j) ids)
    ∙ append_assoc list (id_if_live id (clause_at live id) []) behind
    ∙ ap (λ (l : List ℕ). list ++ l) (sym (if_live-onto id (clause_at live id) behind))
    ∙ ap (λ (l : List ℕ). list ++ live_ids live l) (sym turn) ∙ so_far

pub left_on : (live next whole : Live) (id : ℕ) (rest ids : List ℕ) → without_clauses live rest ≡ whole → rest ≡ id ∷ ids
    → next ≡ map.remove live id → without_clauses next ids ≡ whole
left_on live next whole id rest ids so_far turn removed =
    ap (λ (l : Live). without_clauses l ids) removed ∙ sym (ap (without_clauses live) turn) ∙ so_far

-- none is left
pub live_all : (list : List ℕ) (live : Live) (i : ℕ) (ids whole : List ℕ) → list ++ live_ids live (drop i ids) ≡ whole → drop i ids ≡ []
    → list ≡ whole
live_all list live i ids whole so_far none = sym (append-nil list) ∙ ap (λ (l : List ℕ). list ++ live_ids live l) (sym none) ∙ so_far
