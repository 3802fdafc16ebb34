-- The bounds of an equation's clauses, joined one after another.
use Rattle.std.proofs.Common.{◌≡◌, ◌<◌, ◌≤◌, ◌+◌, ◌*◌, ◌-◌, ℕ, List, [], ◌∷◌, Err, Result, length, take, refl, sym}
use Rattle.std.proofs.Common.{ap, subst, arith}
use Rattle.std.specs.Prelude.{slice_index_or, ℤ}
use Rattle.cnf_base.specs.Truth.{clause_holds}
use Rattle.node_table.specs.declared.error.TableError.{TableError}
use Rattle.node_table.specs.declared.error.TableError.TheVariants.{NodeLimit}
use Rattle.node_table.specs.Laws.{Growth}
use Rattle.quantify.specs.SomeValues.{function_of}
use Rattle.bdd_terms.specs.declared.held.HeldTerm.{HeldTerm}
use Rattle.bdd_terms.specs.declared.runner.Runner.{Runner}
use Rattle.bdd_terms.specs.declared.term.Term.{Term}
use Rattle.bdd_terms.specs.Counting.{Counting}
use Rattle.bdd_terms.specs.Runner.{IsRunner}
use Rattle.parity_terms.specs.Limit.{AreBounded, AreClausesAmong, CostsMoves, IsBounded, IsClauseAmong}
use Rattle.parity_terms.specs.Numbered.{DependsOn}
use Rattle.parity_terms.specs.Owned.{Owns}
use Rattle.parity_terms.proofs.Joined.{HaveTerm}
use Rattle.parity_terms.proofs.StepsBounds.{bounded_further, bounded_more, bounded_wider, fewer_among, first_clause, number_there}
use Rattle.parity_terms.proofs.StepsBounds.{term_depends}
use Rattle.parity_terms.proofs.Taken.{owned_stands}

module _ {S : Type 0} (counting : Counting S) (growth : Growth) (terms : List HeldTerm) (few numbers : List ℕ) (old : Runner S)
    (runner : IsRunner old) (owns : Owns terms old.terms.out.items) (eight : length few ≤ 8)
    (within : AreClausesAmong old.terms.table.graph.order few old.formula.now.clauses numbers) where
  -- the first clause's term
  module _ (some : 0 < length numbers) (new : Runner S) (found : Result Term TableError)
      (bounds : IsBounded terms (λ a. clause_holds a (slice_index_or old.formula.now.clauses (slice_index_or numbers 0 0 - 1) [])) old new
      found) where
    first_bounds : {T : Type 0} (result : Result T TableError) → (result ≡ Err NodeLimit → found ≡ Err NodeLimit)
        → AreBounded 518 1 255 terms old new result
    first_bounds result from =
        first_clause counting old new runner terms few eight (slice_index_or old.formula.now.clauses (slice_index_or numbers 0 0 - 1) [])
        (within (slice_index_or numbers 0 0) (number_there numbers 0 0 some)) found bounds result from

    pub begun : CostsMoves (2 * 1) 255 terms old new
    begun = (bounded_more 518 518 1 (2 * 1) 255 terms old new found (omega arith) (omega arith) (first_bounds found (λ is. is))).costs

    pub none_begun : {T : Type 0} (result : Result T TableError) → (result ≡ Err NodeLimit → found ≡ Err NodeLimit)
        → AreBounded 518 (2 * length numbers) 255 terms old new result
    none_begun result from =
        bounded_more 518 518 1 (2 * length numbers) 255 terms old new result (omega arith) (omega (arith, some)) (first_bounds result from)

  -- behind some clauses
  module _ (place : ℕ) (mid : Runner S) (term : Term) (so_far : HaveTerm terms (take place numbers) old mid term)
      (costs : CostsMoves (2 * place) 255 terms old mid) where
    among_mid : AreClausesAmong mid.terms.table.graph.order few old.formula.now.clauses (take place numbers)
    among_mid = subst (λ (order : List ℕ). AreClausesAmong order few old.formula.now.clauses (take place numbers)) (sym so_far.keeps.order)
        (fewer_among old.terms.table.graph.order few old.formula.now.clauses numbers place within)

    depends : DependsOn few (function_of mid.terms.table.graph term.held.node)
    depends = term_depends counting mid so_far.runner few old.formula.now.clauses (take place numbers) among_mid term.held
        (owned_stands growth mid mid so_far.runner (term.held ∷ terms) so_far.owns term.held (0, omega arith, refl)) so_far.value

    -- one more clause
    module _ (small : place < length numbers) (new : Runner S) (found : Result Term TableError)
        (bounds : (owned : List HeldTerm) (levels : List ℕ) → Owns (term.held ∷ owned) mid.terms.out.items → length levels ≤ 8
        → IsClauseAmong mid.terms.table.graph.order levels
        (slice_index_or mid.formula.now.clauses (slice_index_or numbers place 0 - 1) [])
        → DependsOn levels (function_of mid.terms.table.graph term.held.node) → AreBounded 518 2 255 owned mid new found) where
      own_clause : IsClauseAmong mid.terms.table.graph.order few
          (slice_index_or mid.formula.now.clauses (slice_index_or numbers place 0 - 1) [])
      own_clause =
          subst (λ (clauses : List (List ℤ)). IsClauseAmong mid.terms.table.graph.order few
          (slice_index_or clauses (slice_index_or numbers place 0 - 1) [])) (sym (ap (λ f. f.now.clauses) so_far.keeps.formula))
          (subst (λ (order : List ℕ). IsClauseAmong order few
          (slice_index_or old.formula.now.clauses (slice_index_or numbers place 0 - 1) [])) (sym so_far.keeps.order)
          (within (slice_index_or numbers place 0) (number_there numbers place 0 small)))

      further : AreBounded 518 (2 * place + 2) 255 terms old new found
      further =
          bounded_further counting growth terms old mid runner owns so_far.runner so_far.keeps (2 * place) 518 2 255 new found costs
          (bounds terms few so_far.owns eight own_clause depends)

      pub one_more : CostsMoves (2 * (place + 1)) 255 terms old new
      one_more = subst (λ n. CostsMoves n 255 terms old new) (omega arith) further.costs

      pub none_more : {T : Type 0} (result : Result T TableError) → (result ≡ Err NodeLimit → found ≡ Err NodeLimit)
          → AreBounded 518 (2 * length numbers) 255 terms old new result
      none_more result from =
          bounded_more 518 518 (2 * place + 2) (2 * length numbers) 255 terms old new result (omega arith) (omega (arith, small))
          (bounded_wider 518 (2 * place + 2) 255 255 terms old new new found result (omega arith) refl from further)

    -- the end
    pub ended : {T : Type 0} (new : Runner S) → new.terms.table.book.state.top ≡ mid.terms.table.book.state.top → place ≤ length numbers
        → (result : Result T TableError) → (result ≡ Err NodeLimit → ⊥) → AreBounded 518 (2 * length numbers) 255 terms old new result
    ended new top past result none =
        bounded_more 518 518 (2 * place) (2 * length numbers) 255 terms old new result (omega arith) (omega (arith, past)) (record {
          needs = λ count numbered limit. absurd (none limit);
          costs = λ size width price have is others enough. let own = costs size width price have is others enough in omega
              (arith, own, top);
        })
