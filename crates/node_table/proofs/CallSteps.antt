-- The steps of one call of a table: nothing but room, one clause more, or one node more, whole or cut short.
use Rattle.std.proofs.Common.{◌≡◌, ◌+◌, ◌≤◌, ◌<◌, ◌++◌, ℕ, ℤ, true, false, List, [], ◌∷◌, None, Some, is_some, length, refl, sym, ap, subst}
use Rattle.std.proofs.Common.{arith, inl, inr, append-nil, append_assoc, pos, ◌∙◌}
use Rattle.std.specs.Prelude.{IsTrue, max}
use Rattle.std.specs.List.{list_any}
use Rattle.std.proofs.lemmas.Bool.{and_from}
use Rattle.std.specs.Ordering.{int_eq}
use Rattle.cnf_base.specs.declared.step.Step.{Step}
use Rattle.lrat_rules.specs.State.{State, clause_at}
use Rattle.lrat_rules.specs.Conservative.{are_conservative, is_conservative}
use Rattle.lrat_rules.specs.Marks.{in_use}
use Rattle.clause_ledger.specs.Book.{AreTold, Book, addition, with_next}
use Rattle.clause_ledger.specs.Told.{told_in_step, told_limit, told_none}
use Rattle.node_table.specs.declared.node.Node.{Node}
use Rattle.node_table.specs.declared.node.Branch.{Branch}
use Rattle.node_table.specs.declared.error.TableError.TheVariants.{IdLimit, OutOfMemory, WriteFault}
use Rattle.node_table.specs.Diagram.{Graph, IsBelow, IsNew, IsReduced, KeepsNodes, branch_at, levels, variable_at}
use Rattle.node_table.specs.Defined.{Definition, IsDefinedInPart, atom_of, definition_count, definition_steps, with_definitions}
use Rattle.node_table.specs.Tied.{IsTied, IsAdded, IsOwned, IsOverNodes, IsUpTo, AreUpTo, HoldFormula}
use Rattle.node_table.specs.Table.{TableState, IsSound, IsAddedTo, IsSame, IsWanted, Extends, defining_clauses, live_nodes, new_branch}
use Rattle.node_table.specs.Table.{node_definitions}
use Rattle.node_table.specs.Progress.{AreStepsUpTo, Continues, Steps, StepsOrRefutes}
use Rattle.node_table.proofs.Added.{added_kept}
use Rattle.node_table.proofs.Conserved.{node_conserves}
use Rattle.node_table.proofs.Defining.{defining_new}
use Rattle.node_table.proofs.Grown.{KeepsNodes-none, joined_at, joined_cases}
use Rattle.node_table.proofs.Stands.{Grows, Grows-next}
use Rattle.node_table.proofs.Made.{AreDefinitionsOver, made_is_tied, definitions_over-front, definitions_top, node_definitions_over}
use Rattle.node_table.proofs.Justified.{justified_tied}
use Rattle.node_table.proofs.InUseSame.{in_use_nodes}
use Rattle.node_table.proofs.Fresh.{IsNobodys, live_more, KeepsNodes-new}
use Rattle.node_table.proofs.Fronts.{IsCutBefore, Grows-definitions, cut_at_once, part_cut, part_grows, part_none_empty}
use Rattle.node_table.proofs.Fronts.{part_rest}
use Rattle.node_table.proofs.NoEmpty.{definitions_some, none_empty}
use Rattle.node_table.proofs.Progressed.{Continues-none, Extends-none, Steps-no_empty, some_of}
use Rattle.node_table.proofs.Since.{ComesSince-grown}
use Rattle.node_table.proofs.Retired.{AreRetired-kept}
use Rattle.node_table.proofs.Uptos.{up_to_definitions, up_to_over}

-- A call that was refused: nothing changed but the room that is reserved, and a limit that is told is met.
module _ {S : Type 0} where
  refused : (table : TableState S) → IsSound table → (spare : ℕ)
      → Continues table (record table { book = record table.book { spare = spare } })
      × Extends table (record table { book = record table.book { spare = spare } })
  refused table sound spare =
      let same = Continues-none table sound in
      let extends = Extends-none table sound in (
        record {
          sound = record {
            in_step = sound.in_step;
            tied = sound.tied;
            variables = sound.variables;
            inputs = sound.inputs;
            formula = sound.formula;
            retired = sound.retired;
          };
          order = refl;
          inputs = refl;
          max_nodes = refl;
          limit = refl;
          more = [];
          told = told_none table.book spare sound.in_step;
          variables = tt;
          conserves = refl;
          no_less = same.no_less;
          numbers = same.numbers;
          since = same.since;
        },
        record {
          inputs = refl;
          nodes = extends.nodes;
          clauses = extends.clauses;
          numbers = extends.numbers;
          more = extends.more;
          retired = extends.retired;
        },
      )

  pub no_room : (old new : TableState S) → IsSound old → IsSame old new → Steps old new 0 (Some OutOfMemory)
  no_room old new sound same =
      let both = refused old sound new.book.spare in
      subst (λ (t : TableState S). Steps old t 0 (Some OutOfMemory)) (sym same)
      (record { leaves = both.0; extends = both.1; adds = omega arith; no_empty = record { each = λ id is. is } })

  pub no_ids_left : (old new : TableState S) → IsSound old → IsSame old new → old.book.limit < old.book.state.top + 4
      → Steps old new 0 (Some IdLimit)
  no_ids_left old new sound same met =
      let both = refused old sound new.book.spare in
      subst (λ (t : TableState S). Steps old t 0 (Some IdLimit)) (sym same)
      (record { leaves = (both.0, met); extends = both.1; adds = omega arith; no_empty = record { each = λ id is. is } })

-- a clause that was added stays so in a table that has more
pub IsAddedTo-kept : {S : Type 0} (old new : TableState S) → IsSound old → IsSound new → Extends old new → (id : ℕ) → IsAddedTo old id
    → IsAddedTo new id
IsAddedTo-kept old new sound still extends id own =
    subst (λ (inputs : ℕ). IsAdded new.graph new.book.state.live inputs id) (sym extends.inputs)
    (added_kept old.graph new.graph old.book.state new.book.state sound.tied still.tied extends.nodes extends.clauses old.inputs id own)

-- and one that has an old number was added before
pub IsAddedTo-before : {S : Type 0} (old new : TableState S) → Extends old new → (id : ℕ) → id ≤ old.book.state.top → IsAddedTo new id
    → IsAddedTo old id
IsAddedTo-before old new extends id within own = record {
  stands = elim (extends.numbers.next id own.stands) [
    | inl there ↦ there
    | inr above ↦ absurd (omega (arith, within, above))
  ];
  above = omega (arith, own.above, extends.inputs);
  defines_none = λ key branch at. own.defines_none key branch (extends.nodes.nodes key branch at);
}

-- no fewer extension variables are in use where there are more live clauses
abbrev pub FewerInUse : Type 0
FewerInUse = (vars : ℕ) (few more : State) → ((id : ℕ) (clause : List ℤ) → clause_at few.live id ≡ Some clause → clause_at more.live id
    ≡ Some clause) → in_use vars few ≤ in_use vars more

≤-then : (a b c : ℕ) → a ≤ b → b ≤ c → a ≤ c
≤-then a b c first second = omega (arith, first, second)

-- What additions leave as it is: the greatest number of nodes, how many clauses the formula has, and what is retired.
pub record Aside : Type 0 where
  pub max_nodes : ℕ
  pub inputs : ℕ
  pub retired : List ℕ

abbrev pub table_of : {S : Type 0} → Aside → Graph → Book S → TableState S
table_of aside graph book = record {
  graph = graph;
  book = book;
  max_nodes = aside.max_nodes;
  inputs = aside.inputs;
  retired = aside.retired;
}

-- More nodes and clauses, within the limits.
pub record Grew {S : Type 0} (justified : ℕ) (graph later : Graph) (old new : Book S) : Type 0 where
  pub nodes : KeepsNodes graph later
  pub grows : Grows old.state new.state
  pub within : new.state.top ≤ max old.state.top old.limit
  pub adds : new.state.top + defining_clauses graph ≤ old.state.top + defining_clauses later + justified

module _ {S : Type 0} (aside : Aside) (graph later : Graph) (old new : Book S) (justified : ℕ)
    (grew : Grew justified graph later old new) where
  -- the formula's clauses stay
  formula_stays : IsSound (table_of aside graph old) → HoldFormula later new.state.live aside.inputs
  formula_stays sound id clause is low literal among = elim (grew.grows.gives.next id (ap is_some is)) [
    | inl there ↦
        let was = some_of (clause_at old.state.live id) there in
        let same : Some was.0 ≡ Some clause = sym (grew.grows.clauses id was.0 was.1) ∙ is in
        let own : was.0 ≡ clause = cc in
        let small = sound.formula id was.0 was.1 low literal (subst (λ (c : List ℤ). IsTrue (list_any (int_eq literal) c)) (sym own) among) in
        omega (arith, small, ap length grew.nodes.order)
    | inr above ↦ absurd (omega (arith, above, low, sound.inputs))
  ]

  extends : Extends (table_of aside graph old) (table_of aside later new)
  extends = record {
    inputs = refl;
    nodes = grew.nodes;
    clauses = grew.grows.clauses;
    numbers = grew.grows.gives;
    more = [];
    retired = sym (append-nil aside.retired);
  }

  pub went_on : IsSound (table_of aside graph old) → (more : List Step) → AreTold true old new more
      → AreStepsUpTo (levels graph + aside.max_nodes) more → are_conservative (levels graph) old.state more ≡ true
      → IsTied later new.state → AreUpTo (levels later + aside.max_nodes) later
      → StepsOrRefutes (table_of aside graph old) (table_of aside later new) justified None
  went_on sound more told up_to conserves tied few = record {
    leaves = record {
      sound = record {
        in_step = told_in_step told;
        tied = tied;
        variables = few;
        inputs = ≤-then aside.inputs old.state.top new.state.top sound.inputs grew.grows.gives.no_less;
        formula = formula_stays sound;
        retired = AreRetired-kept graph later old.state new.state sound.tied tied grew.nodes grew.grows.clauses aside.inputs aside.retired
            sound.retired;
      };
      order = grew.nodes.order;
      inputs = refl;
      max_nodes = refl;
      limit = told_limit told;
      more = more;
      told = told;
      variables = up_to;
      conserves = conserves;
      no_less = grew.grows.gives.no_less;
      numbers = grew.within;
      since = ComesSince-grown old.state new.state grew.grows;
    };
    extends = extends;
    adds = grew.adds;
  }

  pub broke_off : IsReduced later → (more : List Step) → AreTold false old new more → AreStepsUpTo (levels graph + aside.max_nodes) more
      → IsCutBefore old.state new.state more → FewerInUse
      → in_use (levels graph) new.state ≤ live_nodes later
      → live_nodes later ≤ aside.max_nodes
      → StepsOrRefutes (table_of aside graph old) (table_of aside later new) justified (Some WriteFault)
  broke_off reduced more told up_to cut fewer used few = record {
    leaves = record {
      more = more;
      told = told;
      variables = up_to;
      cut = record {
        earlier = cut.earlier;
        last = cut.last;
        parts = cut.parts;
        before = cut.before;
        leads = cut.leads;
        no_less = cut.no_less;
        from = cut.from;
        since = cut.since;
        within_before = record {
          numbers = ≤-then cut.before.top new.state.top (max old.state.top old.limit) cut.no_less grew.within;
          nodes = ≤-then (in_use (levels graph) cut.before) (in_use (levels graph) new.state) (live_nodes later)
              (fewer (levels graph) cut.before new.state cut.keeps) used;
        };
        within_after = record { numbers = grew.within; nodes = used };
      };
      few = few;
      out_of_step = told_in_step told;
      reduced = reduced;
      order = grew.nodes.order;
      max_nodes = refl;
      limit = told_limit told;
      no_less = grew.grows.gives.no_less;
      numbers = grew.within;
      since = ComesSince-grown old.state new.state grew.grows;
    };
    extends = extends;
    adds = grew.adds;
  }

-- A clause more over the variables of nodes.
module _ {S : Type 0} (aside : Aside) (graph : Graph) (old new : Book S) (clause : List ℤ)
    (sound : IsSound (table_of aside graph old))
    (over : IsOverNodes graph clause) (room : old.state.top < old.limit) (added : new.state ≡ with_next old.state clause) where
  one_more : Grew 1 graph graph old new
  one_more =
      let top : new.state.top ≡ old.state.top + 1 = ap (λ (s : State). s.top) added in
      record {
        nodes = KeepsNodes-none graph;
        grows = subst (Grows old.state) (sym added) (Grows-next old.state clause sound.tied.numbers);
        within = omega (arith, top, room);
        adds = omega (arith, top);
      }

  tied_still : IsTied graph new.state
  tied_still = subst (IsTied graph) (sym added) (justified_tied graph old.state clause sound.tied over)

  -- its variables are the formula's and nodes'
  within_variables : IsUpTo (levels graph + aside.max_nodes) clause
  within_variables = up_to_over graph (levels graph + aside.max_nodes) (omega arith) sound.variables clause over

  pub justified_on : (hints : List ℕ) → AreTold true old new (addition old.state clause hints ∷ [])
      → is_conservative (levels graph) old.state (addition old.state clause hints) ≡ true
      → StepsOrRefutes (table_of aside graph old) (table_of aside graph new) 1 None
  justified_on hints told conserves = went_on aside graph graph old new 1 one_more sound (addition old.state clause hints ∷ []) told
      (within_variables, tt) (and_from (is_conservative (levels graph) old.state (addition old.state clause hints)) true conserves refl)
      tied_still sound.variables

  pub justified_torn : (hints : List ℕ) → AreTold false old new (addition old.state clause hints ∷ []) → FewerInUse
      → live_nodes graph ≤ aside.max_nodes
      → StepsOrRefutes (table_of aside graph old) (table_of aside graph new) 1 (Some WriteFault)
  justified_torn hints told fewer few =
      let step = addition old.state clause hints in
      broke_off aside graph graph old new 1 one_more sound.tied.reduced (step ∷ []) told (within_variables, tt)
      (cut_at_once old.state new.state step one_more.grows) fewer
      (let same = in_use_nodes graph new.state tied_still in omega (arith, same)) few

-- a node that may be made with this variable
pub record IsAsked (graph : Graph) (state : State) (level : ℕ) (high low : Node) (variable : ℕ) : Type 0 where
  pub tied : IsTied graph state
  pub small : level < levels graph
  pub high_below : IsBelow graph level high
  pub low_below : IsBelow graph level low
  pub wanted : IsWanted graph level high low
  pub above : levels graph < variable
  pub own : IsNobodys graph variable

-- A node more, by its definitions or a front of them.
module _ {S : Type 0} (aside : Aside) (graph later : Graph) (old new : Book S) (level : ℕ)
    (high low : Node) (variable : ℕ)
    (sound : IsSound (table_of aside graph old)) (asked : IsAsked graph old.state level high low variable) (key : ℕ)
    (joined : IsNew graph later key (new_branch old.state level high low variable))
    (room : old.state.top + definition_count high low ≤ old.limit) (few_variables : variable ≤ levels graph + aside.max_nodes) where
  abbrev whole : State
  whole = with_definitions old.state (node_definitions graph old.state level high low variable)

  tied_whole : IsTied later whole
  tied_whole =
      subst (λ (g : Graph). IsTied g whole) (sym joined.joined)
      (made_is_tied graph old.state asked.tied level high low asked.small asked.high_below asked.low_below asked.wanted variable asked.above
      asked.own key joined.unused)

  whole_top : whole.top ≡ old.state.top + definition_count high low
  whole_top = definitions_top graph old.state level high low variable asked.high_below.stands asked.low_below.stands

  levels_stay : levels later ≡ levels graph
  levels_stay = ap levels joined.joined

  up_to_later : AreUpTo (levels later + aside.max_nodes) later
  up_to_later other b is =
      elim (joined_cases graph key (new_branch old.state level high low variable) other b
      (ap (λ (g : Graph). branch_at g other) (sym joined.joined) ∙ is)) [
        | inl here ↦ let own : b.variable ≡ variable = ap (λ (c : Branch). c.variable) here.1 in
            omega (arith, own, few_variables, levels_stay)
        | inr there ↦ let small = sound.variables other b there in omega (arith, small, levels_stay)
      ]

  -- the definitions are over the formula's variables and nodes'
  over_later : AreDefinitionsOver later (node_definitions graph old.state level high low variable)
  over_later = node_definitions_over graph later old.state level high low variable (KeepsNodes-new graph later key joined)
      (asked.tied.ordered.within level asked.small).1 asked.high_below.stands asked.low_below.stands
      (subst (λ (g : Graph). IsOwned g variable) (sym joined.joined)
      (record {
        key = key;
        branch = new_branch old.state level high low variable;
        stands = joined_at graph key (new_branch old.state level high low variable);
        own = refl;
      }))

  up_to_steps : (some : List Definition) → AreDefinitionsOver later some
      → AreStepsUpTo (levels graph + aside.max_nodes) (definition_steps old.state some)
  up_to_steps some over = up_to_definitions later (levels graph + aside.max_nodes) (omega (arith, levels_stay))
      (λ other b is. let small = up_to_later other b is in omega (arith, small, levels_stay)) old.state some over

  -- it grew by no more than the definitions
  made_more : Grows old.state new.state → new.state.top ≤ whole.top → Grew 0 graph later old new
  made_more grows few =
      let own = defining_new graph later key joined in
      record {
        nodes = KeepsNodes-new graph later key joined;
        grows = grows;
        within = omega (arith, few, whole_top, room);
        adds = omega (arith, few, whole_top, own);
      }

  pub made_on : new.state ≡ whole
      → AreTold true old new (definition_steps old.state (node_definitions graph old.state level high low variable))
      → Steps (table_of aside graph old) (table_of aside later new) 0 None
  made_on is told =
      Steps-no_empty (table_of aside graph old) (table_of aside later new) 0 None
      (went_on aside graph later old new 0
      (made_more (subst (Grows old.state) (sym is) (Grows-definitions old.state
      (node_definitions graph old.state level high low variable) asked.tied.numbers))
      (let top = ap (λ (s : State). s.top) is in omega (arith, top)))
      sound (definition_steps old.state (node_definitions graph old.state level high low variable)) told
      (up_to_steps (node_definitions graph old.state level high low variable) over_later)
      (node_conserves graph old.state level high low variable asked.above) (subst (IsTied later) (sym is) tied_whole) up_to_later)
      (record {
        each = λ id empty. none_empty old.state (node_definitions graph old.state level high low variable)
            (definitions_some (pos variable) (pos (variable_at graph level)) (atom_of graph high) (atom_of graph low) (old.state.top + 1)) id
            (sym (ap (λ (s : State). clause_at s.live id) is) ∙ empty);
      })

  pub made_torn : (more : List Step) → AreTold false old new more
      → IsDefinedInPart old.state new.state (node_definitions graph old.state level high low variable) more → FewerInUse
      → live_nodes graph < aside.max_nodes → Steps (table_of aside graph old) (table_of aside later new) 0 (Some WriteFault)
  made_torn more told part fewer few =
      let all = node_definitions graph old.state level high low variable in
      let grows : Grows old.state new.state = part_grows old.state new.state all more asked.tied.numbers part in
      let rest : Grows new.state whole = part_rest old.state new.state all more asked.tied.numbers part in
      let used : in_use (levels graph) whole ≡ live_nodes later = subst (λ (vars : ℕ). in_use vars whole
      ≡ live_nodes later) levels_stay (in_use_nodes later whole tied_whole) in
      let written : AreStepsUpTo (levels graph + aside.max_nodes) more = subst (AreStepsUpTo (levels graph + aside.max_nodes)) (sym part.written)
      (up_to_steps (part.earlier ++ part.last ∷ []) (definitions_over-front later (part.earlier ++ part.last ∷ []) part.rest
      (subst (AreDefinitionsOver later) (part.parts ∙ sym (append_assoc part.earlier (part.last ∷ []) part.rest)) over_later))) in
      let less = fewer (levels graph) new.state whole rest.clauses in
      let nodes = live_more graph later key joined in
      Steps-no_empty (table_of aside graph old) (table_of aside later new) 0 (Some WriteFault)
      (broke_off aside graph later old new 0 (made_more grows rest.gives.no_less) tied_whole.reduced more told written
      (part_cut old.state new.state all more asked.tied.numbers part) fewer (omega (arith, less, used)) (omega (arith, nodes, few)))
      (record {
        each = part_none_empty old.state new.state all more
            (definitions_some (pos variable) (pos (variable_at graph level)) (atom_of graph high) (atom_of graph low) (old.state.top + 1)) part;
      })
