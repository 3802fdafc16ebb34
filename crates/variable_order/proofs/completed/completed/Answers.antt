-- All variables are kept in the end; those of a sequence that is an order were all kept before.
use Rattle.std.proofs.Common.{◌≡◌, suc, length, map, sym, ap, ◌∙◌, arith}
use Rattle.std.proofs.lemmas.List.{length-map}
use Rattle.variable_order.proofs.completed.completed.Goals as goal

pub keep_all-requires : goal.keep_all-requires
keep_all-requires c = ap (λ k. k.variables) c.in_ok-kept.ensures

pub finish-requires : goal.finish-requires
finish-requires c = λ vertex below.
    c.in_ok-keep_missing.ensures.all vertex (omega (arith, below, c.in_ok-keep_missing.ensures.vars))

pub returns-clause-length : goal.returns-clause-length
returns-clause-length c =
    c.finish.ensures.length ∙ c.in_ok-keep_missing.ensures.vars ∙ c.in_ok-keep_all.ensures.vars ∙ ap (λ k. k.vars) c.in_ok-kept.ensures

pub returns-clause-kept : goal.returns-clause-kept
returns-clause-kept c = λ is long.
    let sequence = c.args.sequence.now in
    let vars = ap (λ k. k.vars) c.in_ok-kept.ensures in
    let all : c.keep_all.new.self.variables ≡ map suc sequence = c.in_ok-keep_all.ensures.order is (long ∙ sym vars) in
    let full : length c.keep_all.new.self.variables ≡ c.keep_all.new.self.vars =
    ap length all ∙ length-map sequence suc ∙ long ∙ sym vars ∙ sym c.in_ok-keep_all.ensures.vars in
    c.finish.ensures.order ∙ c.in_ok-keep_missing.ensures.full full ∙ all
