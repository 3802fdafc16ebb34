-- What is left to show of `line_of`.
use Rattle.std.proofs.Common.{◌∙◌, ap, codes, refl, sym}
use Rattle.host_io.specs.declared.role.Role.TheVariants.{Cnf, Order, Buckets, Schedule, Cubes}
use Rattle.solver_cli.specs.ErrorText.{cube_kind_name, error_text, kind_name, order_kind_name, plan_kind_name}
use Rattle.solver_cli.proofs.Complaints.{refused}
use Rattle.solver_cli.proofs.complaint.line_of.Goals as goal

pub returns-in-CnfRefused : goal.returns-in-CnfRefused
returns-in-CnfRefused c =
    ap error_text c.in-CnfRefused.is
    ∙ refused Cnf c.in-CnfRefused.line (kind_name c.in-CnfRefused.kind) (codes "error: cnf line ") _ refl c.cnf_kind.ensures
    ∙ sym c.refused.ensures

pub returns-in-OrderRefused : goal.returns-in-OrderRefused
returns-in-OrderRefused c =
    ap error_text c.in-OrderRefused.is
    ∙ refused Order c.in-OrderRefused.line (order_kind_name c.in-OrderRefused.kind) (codes "error: order line ") _ refl c.order_kind.ensures
    ∙ sym c.refused-in-OrderRefused.ensures

pub returns-in-BucketsRefused : goal.returns-in-BucketsRefused
returns-in-BucketsRefused c =
    ap error_text c.in-BucketsRefused.is
    ∙ refused Buckets c.in-BucketsRefused.line (order_kind_name c.in-BucketsRefused.kind) (codes "error: buckets line ") _ refl c.order_kind-in-BucketsRefused.ensures
    ∙ sym c.refused-in-BucketsRefused.ensures

pub returns-in-PlanRefused : goal.returns-in-PlanRefused
returns-in-PlanRefused c =
    ap error_text c.in-PlanRefused.is
    ∙ refused Schedule c.in-PlanRefused.line (plan_kind_name c.in-PlanRefused.kind) (codes "error: schedule line ") _ refl c.plan_kind.ensures
    ∙ sym c.refused-in-PlanRefused.ensures

pub returns-in-CubeRefused : goal.returns-in-CubeRefused
returns-in-CubeRefused c =
    ap error_text c.in-CubeRefused.is
    ∙ refused Cubes c.in-CubeRefused.line (cube_kind_name c.in-CubeRefused.kind) (codes "error: cubes line ") _ refl c.cube_kind.ensures
    ∙ sym c.refused-in-CubeRefused.ensures
