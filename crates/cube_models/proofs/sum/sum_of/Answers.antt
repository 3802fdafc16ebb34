-- What is left to show of `sum_of`.
use Rattle.std.proofs.Common.{◌≡◌, ◌∙◌, ◌∷◌, [], pos, neg_ℤ, Option, Some, ap, sym}
use Rattle.std.specs.Option.{option_map}
use Rattle.hint_chain.specs.declared.atom.Atom.TheVariants.{Of}
use Rattle.hint_chain.specs.Atoms.{clause_from_atoms, neg_atom}
use Rattle.node_table.specs.declared.node.Defs.{Defs}
use Rattle.node_table.specs.Defined.{atom_in, atom_of, defs_of}
use Rattle.cube_models.proofs.Summed.{sum_is}
use Rattle.cube_models.proofs.sum.sum_of.Goals as goal

same_defs : (one other : Defs) → ◌≡◌ {A = Option Defs} (Some one) (Some other) → one ≡ other
same_defs one other is = cc

pub returns : goal.returns
returns g c =
    let graph = c.args.table.now.graph in
    let found = c.in_ok-_level.ensures in
    let b = found.0 in
    let tied = c.requires.sound.tied in
    let own : c.negated.result ≡ Of (neg_ℤ (pos b.variable)) = c.negated.ensures ∙ ap neg_atom (c.atom.ensures ∙ ap atom_in found.1) in
    let high : c.atom-2.result ≡ atom_of graph b.high = c.atom-2.ensures ∙ ap (atom_of graph) found.3 in
    let low : c.atom-3.result ≡ atom_of graph b.low = c.atom-3.ensures ∙ ap (atom_of graph) found.4 in
    let ids : c.in_ok-ids.ids ≡ defs_of b = same_defs c.in_ok-ids.ids (defs_of b)
    (sym (c.in_ok-ids.was) ∙ c.definitions.ensures ∙ ap (option_map defs_of) found.1) in
    sum_is graph tied.reduced tied.ordered c.args.table.now.book.state.live c.args.key b found.1
    (tied.defined c.args.key b found.1) c.in_ok-clause.clause
    ((λ i. clause_from_atoms (sym own i ∷ sym high i ∷ sym low i ∷ [])) ∙ sym c.clause_from_atoms.ensures ∙ c.in_ok-clause.was)
    c.in_ok-ids-2.field-0 c.in_ok-ids-3.field-0 (ap (λ (d : Defs). d.hd) (sym ids) ∙ c.in_ok-ids-2.was)
    (ap (λ (d : Defs). d.ld) (sym ids) ∙ c.in_ok-ids-3.was)
