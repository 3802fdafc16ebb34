-- What is left to show of `check_drat_law`.
use Rattle.std.proofs.Common.{◌≡◌, false, [], refl, arith}
use Rattle.drat_text.specs.DratText.{drat_lines, drat_text}
use Rattle.drat_checker.specs.DratVerdict.{numbered_lines}
use Rattle.drat_checker.proofs.Written.{written-lines, written-ends}
use Rattle.drat_checker.proofs.Verdicts.{IsVerified, same-verdict, verified-text, overlong-text, refutes, text-nonzero}
use Rattle.drat_checker.proofs.laws.check_drat_law.Goals as goal

pub returns-clause-same : goal.returns-clause-same
returns-clause-same c = λ same. same-verdict same c.drat_text_law.ensures.whole

pub returns-clause-written : goal.returns-clause-written
returns-clause-written c = λ same clauses steps printable fits.
    let lines : drat_lines (drat_text steps) ≡ numbered_lines 1 steps =
    written-lines c.drat_line_law.ensures.appended c.drat_line_law.ensures.whole c.drat_line_law.ensures.ends steps [] refl printable in
    let ends = written-ends c.drat_line_law.ensures.appended c.drat_line_law.ensures.whole c.drat_line_law.ensures.ends steps []
    printable in
    same-verdict same c.drat_text_law.ensures.whole clauses (drat_text steps) steps fits lines (omega arith)

pub returns-clause-verified : goal.returns-clause-verified
returns-clause-verified c = λ same clauses bytes e.
    let v : IsVerified same clauses false (drat_lines bytes) =
    verified-text same c.drat_text_law.ensures.whole c.drat_text_law.ensures.within clauses bytes e in
    (v.steps, v.spelled, refutes same clauses (drat_lines bytes) v)

pub returns-clause-refuted : goal.returns-clause-refuted
returns-clause-refuted c = λ same vars clauses bytes own e a satisfies.
    let v : IsVerified same clauses false (drat_lines bytes) =
    verified-text same c.drat_text_law.ensures.whole c.drat_text_law.ensures.within clauses bytes e in
    c.drat_soundness_law.ensures.refuted same clauses v.steps (c.drat_soundness_law.ensures.nonzero_start vars clauses own)
    (text-nonzero bytes v.steps v.spelled) (refutes same clauses (drat_lines bytes) v) a satisfies

pub returns-clause-overlong : goal.returns-clause-overlong
returns-clause-overlong c = λ same. overlong-text same c.drat_text_law.ensures.whole c.drat_text_law.ensures.within
