-- A runner of these parts.
use Rattle.std.proofs.Common.{◌≡◌, ◌∙◌, true, false, [], None, length, refl, sym, ap, subst}
use Rattle.std.specs.FinMap as map
use Rattle.cnf_base.specs.Order.{IsOrder}
use Rattle.lrat_rules.specs.State.{start}
use Rattle.clause_ledger.specs.Book.{Book}
use Rattle.clause_ledger.specs.Kept.{ample_room}
use Rattle.node_table.specs.Diagram.{Graph}
use Rattle.node_table.specs.Table.{TableState, opened}
use Rattle.bdd_terms.specs.Caches.{all_entries, sizes}
use Rattle.bdd_terms.specs.Unused.{IsUnused}
use Rattle.bdd_terms.proofs.Opened.{unused_runner}
use Rattle.bdd_terms.proofs.runner.Runner.new.Given.{Over}
use Rattle.bdd_terms.proofs.runner.Runner.new.Goals as goal
use Rattle.bdd_terms.proofs.runner.Runner.new.Goals.{After-new}

module _ (g : Over) (c : After-new g) where
  made : c.new.result.table.book ≡ c.new-ledger.result
  made = ap (λ (t : TableState g.row.S.Denot). t.book) (c.new.ensures.table ∙ c.new-table.ensures)

  book : c.new.result.table.book ≡ record {
    sink = c.args.sink;
    origin = c.args.sink;
    formula = c.args.formula.now.clauses;
    steps = [];
    state = start c.args.formula.now.clauses;
    limit = c.args.limits.max_ids;
    in_step = true;
    finished = false;
    keeps = false;
    spare = ample_room;
  }
  book = made ∙ c.new-ledger.ensures

  order : c.new.result.table.graph.order ≡ c.args.order.now
  order = ap (λ (t : TableState g.row.S.Denot). t.graph.order) (c.new.ensures.table ∙ c.new-table.ensures)
      ∙ ap (λ (d : Graph). d.order) c.requires.diagram

  -- the graph has no node
  bare : c.new.result.table.graph ≡ record { order = c.new.result.table.graph.order; nodes = map.empty }
  bare = ap (λ (t : TableState g.row.S.Denot). t.graph) (c.new.ensures.table ∙ c.new-table.ensures) ∙ c.requires.diagram
      ∙ (λ k. record { order = sym order k; nodes = map.empty })

  is_opened : c.new.result.table ≡ opened c.new.result.table.graph.order c.new.result.table.book c.args.limits.max_nodes
  is_opened = λ k. record {
    graph = bare k;
    book = c.new.result.table.book;
    max_nodes = ap (λ (t : TableState g.row.S.Denot). t.max_nodes) (c.new.ensures.table ∙ c.new-table.ensures) k;
    inputs = (ap (λ (t : TableState g.row.S.Denot). t.inputs) (c.new.ensures.table ∙ c.new-table.ensures)
        ∙ sym (ap (λ (b : Book g.row.S.Denot). b.state.top) made)) k;
    retired = ap (λ (t : TableState g.row.S.Denot). t.retired) (c.new.ensures.table ∙ c.new-table.ensures) k;
  }

  pub unused : IsUnused {S = g.row.S.Denot} (record {
    formula = c.args.formula;
    limits = c.args.limits;
    terms = c.new.result;
    refuted = false;
    kept = None;
    refusals = c.new-refusals.result;
  })
  unused = record {
    limits = c.requires.limits;
    book = record {
      literals = c.formula_law.ensures.literals;
      of_formula = ap (λ (b : Book g.row.S.Denot). b.formula) book;
      steps = ap (λ (b : Book g.row.S.Denot). b.steps) book;
      state = ap (λ (b : Book g.row.S.Denot). b.state) book;
      limit = ap (λ (b : Book g.row.S.Denot). b.limit) book;
      in_step = ap (λ (b : Book g.row.S.Denot). b.in_step) book;
    };
    sink = ap (λ (b : Book g.row.S.Denot). b.sink) book ∙ sym (ap (λ (b : Book g.row.S.Denot). b.origin) book);
    table = is_opened;
    order = subst IsOrder (sym order) c.as_slice-order.ensures.order;
    vars = ap length order ∙ c.requires.order;
    no_entries = ap all_entries c.new.ensures.caches ∙ c.requires.no_entries;
    size = ap sizes c.new.ensures.caches ∙ c.requires.size;
    none_out = c.new.ensures.out;
    none_left = c.new.ensures.left;
    unrefuted = refl;
    none_kept = refl;
    none_refused = c.new-refusals.ensures.items;
  }

pub returns-clause-opened : goal.returns-clause-opened
returns-clause-opened g c =
    let inside = (goal.at.returns-clause-opened g c).After-new in
    record {
      of_formula = refl;
      of_order = order g inside;
      within = refl;
      origin = ap (λ (b : Book g.row.S.Denot). b.origin) (book g inside);
      unused = unused g inside;
    }

pub returns-clause-runner : goal.returns-clause-runner
returns-clause-runner g c =
    unused_runner c.start_law.ensures.clauses c.start_law.ensures.none_above c.opening_law.ensures _
    (unused g (goal.at.returns-clause-runner g c).After-new)
