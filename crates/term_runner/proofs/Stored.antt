-- Terms that are stored: their entries say what the nodes said, and give the quantified variables their values back.
use Rattle.std.proofs.Common.{◌≡◌, ◌∙◌, ◌<◌, ◌≤◌, ◌++◌, ℕ, zero, suc, Bool, true, false, not, List, [], ◌∷◌, length, map, reverse, take}
use Rattle.std.proofs.Common.{Contains, refl, sym, ap, subst, arith}
use Rattle.std.specs.List.{AllZip}
use Rattle.std.proofs.lemmas.List.{length-append, length-map, reverse-append, reverse-reverse}
use Rattle.cnf_base.specs.Truth.{Assignment, assignment_of, with_value}
use Rattle.cnf_base.specs.Formula.{Formula}
use Rattle.node_table.specs.declared.node.Node.{Node}
use Rattle.node_table.specs.Diagram.{Graph, IsOrder, IsReduced, is_node, levels}
use Rattle.node_table.specs.Value.{by_level}
use Rattle.clause_terms.specs.Recovery.{IsRecoveredFrom}
use Rattle.clause_terms.specs.Walk.{AreAlike}
use Rattle.reconstruction.specs.declared.cells.Cell.{Cell}
use Rattle.reconstruction.specs.declared.entries.Entry.{Entry}
use Rattle.reconstruction.specs.declared.entries.Kept.{Kept}
use Rattle.reconstruction.specs.Cells.{cell_value}
use Rattle.reconstruction.specs.Copies.{AreCopies}
use Rattle.reconstruction.specs.Entries.{later_stored}
use Rattle.reconstruction.specs.SetBack.{set_cells_back}
use Rattle.reconstruction.specs.SetsBack.{holds_by, one_back_by}
use Rattle.reconstruction.specs.Stack.{AreStored, IsStored, SayTheSame, Stack, Stores}
use Rattle.schedule_plan.specs.Plan.{Term, term_holds}
use Rattle.term_runner.specs.Recovered.{set_all_back, set_back}
use Rattle.term_runner.specs.Trail.{AreCopied, AreKept, AreVariables, IsCopied, IsRecoveredBy, IsTrail}
use Rattle.bdd_terms.proofs.OwnUnits.{later}
use Rattle.bdd_terms.proofs.Places.{agree_within}
use Rattle.term_runner.proofs.Trails.{in_reverse}

-- nodes that aren't stored stand
kept_stand : (formula : Formula) (graph : Graph) (nodes : List Kept) (trail : List (ℕ × Term)) → AreKept formula graph nodes trail
    → (kept : Kept) → Contains nodes kept → is_node graph kept.node ≡ true
kept_stand formula graph [] trail are kept there = absurd (omega (arith, there.1))
kept_stand formula graph (first ∷ nodes) [] are kept there = absurd are
kept_stand formula graph (first ∷ nodes) (quantified ∷ trail) are kept (zero, small, at) =
    subst (λ (k : Kept). is_node graph k.node ≡ true) at are.0.stands
kept_stand formula graph (first ∷ nodes) (quantified ∷ trail) are kept (suc k, small, at) =
    kept_stand formula graph nodes trail are.1 kept (k, omega (arith, small), at)

pub recent_stand : (formula : Formula) (graph : Graph) (trail : Stack) (quantified : List (ℕ × Term)) → IsTrail formula graph trail quantified
    → (kept : Kept) → Contains trail.recent kept → is_node graph kept.node ≡ true
recent_stand formula graph trail quantified is kept there =
    kept_stand formula graph (reverse trail.recent) is.recent is.kept kept (in_reverse trail.recent kept there)

-- the first of a list and of a longer one
take_front : {X : Type 0} (xs ys : List X) (n : ℕ) → n ≤ length xs → take n (xs ++ ys) ≡ take n xs
take_front {X} [] ys zero small = refl
take_front {X} [] ys (suc n) small = absurd (omega (arith, small))
take_front {X} (x ∷ xs) ys zero small = refl
take_front {X} (x ∷ xs) ys (suc n) small = ap (λ (l : List X). x ∷ l) (take_front xs ys n (omega (arith, small)))

map_both : (entries more : List Entry) → map (λ (e : Entry). e.variable) (entries ++ more)
    ≡ map (λ (e : Entry). e.variable) entries ++ map (λ (e : Entry). e.variable) more
map_both [] more = refl
map_both (entry ∷ entries) more = ap (λ (l : List ℕ). entry.variable ∷ l) (map_both entries more)

-- more entries before these change nothing
copied_append : (formula : Formula) (cells : List Cell) (entries more : List Entry) (trail rest : List (ℕ × Term))
    → AreCopied formula cells entries trail → AreCopied formula cells more rest → AreCopied formula cells (entries ++ more) (trail ++ rest)
copied_append formula cells [] more [] rest are behind = behind
copied_append formula cells [] more (quantified ∷ trail) rest are behind = absurd are
copied_append formula cells (entry ∷ entries) more [] rest are behind = absurd are
copied_append formula cells (entry ∷ entries) more (quantified ∷ trail) rest are behind =
    let same : later_stored (entries ++ more) entry ≡ later_stored entries entry =
    ap (take entry.later) (map_both entries more)
    ∙ take_front (map (λ (e : Entry). e.variable) entries) (map (λ (e : Entry). e.variable) more) entry.later
    (omega (arith, are.0.within, length-map entries (λ (e : Entry). e.variable))) in (
      record {
        variable = are.0.variable;
        within = omega (arith, are.0.within, length-append entries more);
        value = λ a. ap (λ (l : List ℕ). holds_by (λ b. cell_value cells b entry.key) l a) same ∙ are.0.value a;
      },
      copied_append formula cells entries more trail rest are.1 behind,
    )

-- the entries are of the nodes' terms
same_variables : (graph : Graph) (cells : List Cell) (nodes : List Kept) (entries : List Entry) → AreStored graph cells nodes entries
    → map (λ (e : Entry). e.variable) entries ≡ map (λ (k : Kept). k.variable) nodes
same_variables graph cells [] [] are = refl
same_variables graph cells [] (entry ∷ entries) are = absurd are
same_variables graph cells (kept ∷ nodes) [] are = absurd are
same_variables graph cells (kept ∷ nodes) (entry ∷ entries) are = λ i. are.0.variable i ∷ same_variables graph cells nodes entries are.1 i

same_length : (graph : Graph) (cells : List Cell) (nodes : List Kept) (entries : List Entry) → AreStored graph cells nodes entries
    → length entries ≡ length nodes
same_length graph cells [] [] are = refl
same_length graph cells [] (entry ∷ entries) are = absurd are
same_length graph cells (kept ∷ nodes) [] are = absurd are
same_length graph cells (kept ∷ nodes) (entry ∷ entries) are = ap suc (same_length graph cells nodes entries are.1)

zipped : (formula : Formula) (graph : Graph) (cells : List Cell) (nodes : List Kept) (entries : List Entry) (trail : List (ℕ × Term))
    → AreStored graph cells nodes entries → AreKept formula graph nodes trail → AreCopied formula cells entries trail
zipped formula graph cells [] [] [] stored are = tt
zipped formula graph cells [] [] (quantified ∷ trail) stored are = absurd are
zipped formula graph cells [] (entry ∷ entries) trail stored are = absurd stored
zipped formula graph cells (kept ∷ nodes) [] trail stored are = absurd stored
zipped formula graph cells (kept ∷ nodes) (entry ∷ entries) [] stored are = absurd are
zipped formula graph cells (kept ∷ nodes) (entry ∷ entries) (quantified ∷ trail) stored are = (
  record {
    variable = stored.0.variable ∙ are.0.variable;
    within = omega (arith, stored.0.later, are.0.within, same_length graph cells nodes entries stored.1);
    value = λ a. (λ i. holds_by (λ b. (stored.0.value b ∙ are.0.value b) i)
        (take (stored.0.later i) (same_variables graph cells nodes entries stored.1 i)) a) ∙ are.0.by a;
  },
  zipped formula graph cells nodes entries trail stored.1 are.1,
)

turned : {X Y : Type 0} (R : X → Y → Type 0) (xs : List X) (ys : List Y) → AllZip R xs ys → AllZip R (reverse xs) (reverse ys)
turned {X} {Y} R [] [] all = tt
turned {X} {Y} R [] (y ∷ ys) all = absurd all
turned {X} {Y} R (x ∷ xs) [] all = absurd all
turned {X} {Y} R (x ∷ xs) (y ∷ ys) all =
    subst (λ (list : List X). AllZip R list (reverse (y ∷ ys))) (sym (reverse-append (x ∷ []) xs))
    (subst (λ (list : List Y). AllZip R (reverse xs ++ x ∷ []) list) (sym (reverse-append (y ∷ []) ys))
    (pushed (reverse xs) (reverse ys) (turned R xs ys all.1)))
  where
    pushed : (us : List X) (vs : List Y) → AllZip R us vs → AllZip R (us ++ x ∷ []) (vs ++ y ∷ [])
    pushed [] [] zip = (all.0, tt)
    pushed [] (v ∷ vs) zip = absurd zip
    pushed (u ∷ us) [] zip = absurd zip
    pushed (u ∷ us) (v ∷ vs) zip = (zip.0, pushed us vs zip.1)

copied_of : (formula : Formula) (graph : Graph) (cells : List Cell) (nodes : List Kept) (entries : List Entry)
    (trail : List (ℕ × Term)) → AreStored graph cells nodes entries → AreKept formula graph (reverse nodes) trail
    → AreCopied formula cells (reverse entries) trail
copied_of formula graph cells nodes entries trail stored are =
    zipped formula graph cells (reverse nodes) (reverse entries) trail (turned (IsStored graph cells) nodes entries stored) are

-- those that were stored say the same among more cells
copied_still : (formula : Formula) (before cells : List Cell) (entries : List Entry) (trail : List (ℕ × Term))
    → ((entry : Entry) → Contains entries entry → (a : Assignment) → cell_value cells a entry.key ≡ cell_value before a entry.key)
    → AreCopied formula before entries trail → AreCopied formula cells entries trail
copied_still formula before cells [] [] same are = tt
copied_still formula before cells [] (quantified ∷ trail) same are = absurd are
copied_still formula before cells (entry ∷ entries) [] same are = absurd are
copied_still formula before cells (entry ∷ entries) (quantified ∷ trail) same are = (
  record {
    variable = are.0.variable;
    within = are.0.within;
    value = λ a. (λ i. holds_by (λ b. same entry (zero, omega arith, refl) b i) (later_stored entries entry) a) ∙ are.0.value a;
  },
  copied_still formula before cells entries trail (λ other there. same other (later entry entries other there)) are.1,
)

from_reverse : {X : Type 0} (xs : List X) (x : X) → Contains (reverse xs) x → Contains xs x
from_reverse {X} xs x there = subst (λ (list : List X). Contains list x) (reverse-reverse xs) (in_reverse (reverse xs) x there)

-- A trail whose recent terms are stored is a trail of the same terms.
pub trail_stored : (formula : Formula) (graph : Graph) (old new : Stack) (quantified : List (ℕ × Term)) → Stores graph old new
    → SayTheSame old.cells new.cells old.stored → AreCopies graph new.cells new.copies → IsTrail formula graph old quantified
    → IsTrail formula graph new quantified
trail_stored formula graph old new quantified stores same copies is = record {
  recent = [];
  stored = quantified;
  all = refl;
  kept = subst (λ (list : List Kept). AreKept formula graph (reverse list) []) (sym stores.none_recent) tt;
  copied = subst (λ (list : List Entry). AreCopied formula new.cells list quantified)
      (sym (ap reverse stores.stored ∙ reverse-append old.stored stores.entries))
      (subst (AreCopied formula new.cells (reverse stores.entries ++ reverse old.stored)) (sym is.all)
      (copied_append formula new.cells (reverse stores.entries) (reverse old.stored) is.recent is.stored
      (copied_of formula graph new.cells old.recent stores.entries is.recent stores.are is.kept)
      (copied_still formula old.cells new.cells (reverse old.stored) is.stored
      (λ entry there. same entry (from_reverse old.stored entry there)) is.copied)));
  copies = copies;
}

-- no node is kept for no recent entry
none_kept : (formula : Formula) (graph : Graph) (nodes : List Kept) (trail : List (ℕ × Term)) → nodes ≡ []
    → AreKept formula graph (reverse nodes) trail → trail ≡ []
none_kept formula graph nodes trail none are = go trail (subst (λ (list : List Kept). AreKept formula graph (reverse list) trail) none are)
  where
    go : (list : List (ℕ × Term)) → AreKept formula graph [] list → list ≡ []
    go [] own = refl
    go (quantified ∷ list) own = absurd own

-- all entries are of the terms, where none is recent
pub all_copied : (formula : Formula) (graph : Graph) (trail : Stack) (quantified : List (ℕ × Term)) → trail.recent ≡ []
    → IsTrail formula graph trail quantified → AreCopied formula trail.cells (reverse trail.stored) quantified
all_copied formula graph trail quantified none is =
    subst (AreCopied formula trail.cells (reverse trail.stored))
    (sym (is.all ∙ ap (λ (list : List (ℕ × Term)). list ++ is.stored) (none_kept formula graph trail.recent is.recent none is.kept)))
    is.copied

-- stored entries are of the formula's variables
copied_in : (formula : Formula) (cells : List Cell) (entries : List Entry) (trail : List (ℕ × Term)) → AreCopied formula cells entries trail
    → AreVariables formula trail → (entry : Entry) → Contains entries entry → (0 < entry.variable) × (entry.variable ≤ formula.vars)
copied_in formula cells [] trail are variables entry there = absurd (omega (arith, there.1))
copied_in formula cells (first ∷ entries) [] are variables entry there = absurd are
copied_in formula cells (first ∷ entries) (quantified ∷ trail) are variables entry (zero, small, at) =
    subst (λ (e : Entry). (0 < e.variable) × (e.variable ≤ formula.vars)) at
    (omega (arith, are.0.variable, variables.0), omega (arith, are.0.variable, variables.1))
copied_in formula cells (first ∷ entries) (quantified ∷ trail) are variables entry (suc k, small, at) =
    copied_in formula cells entries trail are.1 variables.2 entry (k, omega (arith, small), at)

pub stored_there : (formula : Formula) (cells : List Cell) (stored : List Entry) (trail : List (ℕ × Term))
    → AreCopied formula cells (reverse stored) trail → AreVariables formula trail → (entry : Entry) → Contains stored entry
    → (0 < entry.variable) × (entry.variable ≤ formula.vars)
stored_there formula cells stored trail are variables entry there =
    copied_in formula cells (reverse stored) trail are variables entry (in_reverse stored entry there)

-- a stored entry sets its variable back as its term does
same_back : (formula : Formula) (cells : List Cell) (a : Assignment) (older : List Entry) (entry : Entry) (quantified : ℕ × Term)
    → IsCopied formula cells older entry quantified
    → one_back_by (λ b. cell_value cells b entry.key) a entry.variable (later_stored older entry) ≡ set_back formula a quantified
same_back formula cells a older entry quantified is =
    ap (λ b. with_value a entry.variable (not b)) (is.value (with_value a entry.variable false))
    ∙ ap (λ x. with_value a x (not (term_holds formula (with_value a x false) quantified.1))) is.variable

all_same_back : (formula : Formula) (cells : List Cell) (a : Assignment) (entries : List Entry) (trail : List (ℕ × Term))
    → AreCopied formula cells entries trail → set_cells_back cells a entries ≡ set_all_back formula a trail
all_same_back formula cells a [] [] are = refl
all_same_back formula cells a [] (quantified ∷ trail) are = absurd are
all_same_back formula cells a (entry ∷ entries) [] are = absurd are
all_same_back formula cells a (entry ∷ entries) (quantified ∷ trail) are =
    all_same_back formula cells (one_back_by (λ b. cell_value cells b entry.key) a entry.variable (later_stored entries entry)) entries
    trail are.1
    ∙ ap (λ (b : Assignment). set_all_back formula b trail) (same_back formula cells a entries entry quantified are.0)

-- What is recovered from the node, and then set back by the entries, is recovered by the terms.
module _ (formula : Formula) (graph : Graph) (reduced : IsReduced graph) (ordered : IsOrder graph.order) (node : Node)
    (stands : is_node graph node ≡ true) (first : List Bool) (from : IsRecoveredFrom graph node [] first) where
  same_level : (level : ℕ) → level < levels graph
      → by_level graph.order (assignment_of first) level ≡ by_level graph.order from.first level
  same_level level small = from.recovered _ (ordered.within level small).0

  pub recovered_by : (cells : List Cell) (entries : List Entry) (trail : List (ℕ × Term)) → AreCopied formula cells entries trail
      → (last : List Bool) → length last ≡ length first
      → AreAlike (assignment_of last) (set_cells_back cells (assignment_of first) entries) → IsRecoveredBy formula graph node trail last
  recovered_by cells entries trail are last one_each alike = record {
    one_each = one_each ∙ from.one_each;
    first = assignment_of first;
    least = record {
      satisfies = agree_within graph reduced ordered (levels graph) (by_level graph.order (assignment_of first))
          (by_level graph.order from.first) node stands same_level ∙ from.least.satisfies;
      least = λ other holds level small earlier at. from.least.least other holds level small
          (λ i less. earlier i less ∙ same_level i (omega (arith, less, small))) (sym (same_level level small) ∙ at);
    };
    recovered = λ variable above. alike.same variable above
        ∙ ap (λ (a : Assignment). a variable) (all_same_back formula cells (assignment_of first) entries trail are);
  }
