-- The list of dead nodes, as a search puts one more on it.
use Rattle.std.proofs.Common.{◌≡◌, ◌∙◌, ◌⊎◌, ◌++◌, ◌+◌, ℕ, zero, suc, Bool, true, false, List, [], ◌∷◌, length, Contains}
use Rattle.std.proofs.Common.{Option, None, refl, sym, ap, subst, arith, inl, inr, eq-eqb}
use Rattle.std.specs.Prelude.{◌==◌, slice_index_or, slice_set}
use Rattle.std.proofs.lemmas.Bool.{cases_eq}
use Rattle.std.proofs.lemmas.List.{append-nil, append_assoc, get_or-set_same, get_or-set_other, length_push}
use Rattle.std.proofs.lemmas.List.Elements.{Contains-append_left, Contains-append_right, Contains-append_cases}
use Rattle.node_table.specs.declared.node.Node.{Node}
use Rattle.node_table.specs.declared.node.Node.TheVariants.{False, True, Inner}
use Rattle.node_table.specs.declared.node.Branch.{Branch}
use Rattle.node_table.specs.Diagram.{Graph}
use Rattle.node_table.specs.Made.{inner}
use Rattle.cube_models.specs.Denied.{AreDenied, IsDenied, IsShutBy}
use Rattle.cube_models.specs.Way.{Leads, allows, is_marked, next_in, sign_at}
use Rattle.cube_models.proofs.Searches.{IsLast}
use Rattle.cube_models.proofs.Ways.{closed_marked, none_chosen}

-- one more behind all
pub denied_more : (graph : Graph) (signs : List (Option Bool)) (before keys : List ℕ) (key : ℕ) → AreDenied graph signs before keys
    → IsDenied graph signs (before ++ keys) key → AreDenied graph signs before (keys ++ key ∷ [])
denied_more graph signs before [] key all one =
    (subst (λ (list : List ℕ). IsDenied graph signs list key) (append-nil before) one, tt)
denied_more graph signs before (first ∷ keys) key all one = (
  all.0,
  denied_more graph signs (before ++ first ∷ []) keys key all.1
      (subst (λ (list : List ℕ). IsDenied graph signs list key) (sym (append_assoc before (first ∷ []) keys)) one),
)

-- Nodes so far: each denied, and exactly those that are marked.
pub record AreDead (graph : Graph) (signs : List (Option Bool)) (round : ℕ) (marks dead : List ℕ) : Type 0 where
  pub denied : AreDenied graph signs [] dead
  pub listed : (key : ℕ) → is_marked marks round (inner key) ≡ true → Contains dead key
  pub marked : (key : ℕ) → Contains dead key → is_marked marks round (inner key) ≡ true

shut_marked : (marks dead : List ℕ) (round : ℕ) → ((key : ℕ) → is_marked marks round (inner key) ≡ true → Contains dead key)
    → (node : Node) → is_marked marks round node ≡ true → IsShutBy dead node
shut_marked marks dead round listed False is = tt
shut_marked marks dead round listed True is = absurd (let no : false ≡ true = is in cc)
shut_marked marks dead round listed (Inner key) is = listed key.index is

-- the last node of a search is dead
pub dead_more : (graph : Graph) (signs : List (Option Bool)) (round : ℕ) (first : Node) (marks rest dead : List ℕ) (key : ℕ)
    → AreDead graph signs round marks dead → (last : IsLast graph signs round first marks rest key)
    → next_in graph signs marks round last.branch ≡ None
    → AreDead graph signs round (slice_set marks key round) (dead ++ key ∷ [])
dead_more graph signs round first marks rest dead key known last none =
    let shut = none_chosen (is_marked marks round) (sign_at graph signs) last.branch none in
    let sign = sign_at graph signs last.branch.level in
    let b = last.branch in
    record {
      denied = denied_more graph signs [] dead key known.denied (record {
        branch = b;
        stands = last.stands;
        high = λ allowed. shut_marked marks dead round known.listed b.high
            (closed_marked (allows sign true) (is_marked marks round b.high) shut.high allowed);
        low = λ allowed. shut_marked marks dead round known.listed b.low
            (closed_marked (allows sign false) (is_marked marks round b.low) shut.low allowed);
        new = λ there. let is = known.marked key there in let no = last.unmarked in let wrong : true ≡ false = sym is ∙ no in cc;
      });
      listed = λ other is. elim (cases_eq other key) [
        | inl same ↦ Contains-append_right dead (key ∷ []) other (zero, omega arith, sym same)
        | inr differ ↦ Contains-append_left dead (key ∷ []) other (known.listed other
            (ap (λ (n : ℕ). n == round) (sym (get_or-set_other marks key other round 0 differ)) ∙ is))
      ];
      marked = λ other there. elim (cases_eq other key) [
        | inl same ↦ ap (λ (n : ℕ). slice_index_or (slice_set marks key round) n 0 == round) same
            ∙ eq-eqb _ _ (get_or-set_same marks key round 0 last.small)
        | inr differ ↦ ap (λ (n : ℕ). n == round) (get_or-set_other marks key other round 0 differ)
            ∙ known.marked other (was other differ (Contains-append_cases dead (key ∷ []) other there))
      ];
    }
  where
    was : (other : ℕ) → (other ≡ key → ⊥) → Contains dead other ⊎ Contains (key ∷ []) other → Contains dead other
    was other differ (inl there) = there
    was other differ (inr (zero, small, at)) = absurd (differ (sym at))
    was other differ (inr (suc k, small, at)) = absurd (omega (arith, small))

-- where nothing is left of the way the first node is the last one
pub shut_at_end : (graph : Graph) (next : Branch → Option Node) (first : Node) (rest dead : List ℕ) (key : ℕ)
    → Leads graph next first rest (inner key) → rest ≡ [] → IsShutBy (dead ++ key ∷ []) first
shut_at_end graph next first rest dead key way none =
    let same : first ≡ inner key = subst (λ (l : List ℕ). Leads graph next first l (inner key)) none way in
    subst (IsShutBy (dead ++ key ∷ [])) (sym same) (Contains-append_right dead (key ∷ []) key (zero, omega arith, refl))

-- a way that goes on isn't at its end
pub not_ended : {P : Type 0} (rest new : List ℕ) (key : ℕ) → new ≡ rest ++ key ∷ [] → new ≡ [] → P
not_ended rest new key is none =
    let long : length new ≡ length rest + 1 = ap length is ∙ length_push rest key in
    let no : length new ≡ 0 = ap length none in
    absurd (omega (arith, long, no))
