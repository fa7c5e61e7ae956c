use Rattle.std.proofs.Common.{Err, arith}
use Rattle.std.proofs.lemmas.Result.{err_from_is_err_and}
use Rattle.word_format.proofs.Verdicts.{only_refusal, reads}
use Rattle.word_format.proofs.Walks.{walked_more, walked_refused, walked_all}
use Rattle.word_format.proofs.check.check.Goals as goal

pub returns-in_err-take : goal.returns-in_err-take
returns-in_err-take c =
    let p = err_from_is_err_and c.from_residual-in_err-take.result c.from_residual-in_err-take.ensures.1 in
    let ws = c.args.words.now in
    let e = c.in_err-take.field-0.0 in
    let h = c.loop-i.invariant in
    let v = walked_refused ws h.short c.loop-i.check c.take.new.self c.loop-i.i e c.loop-i-test.true h.walked c.in_err-take.ensures in
    rw (p.1, p.2) (record { verdict = v; only = only_refusal ws (Err e) v; law = reads ws (Err e) v })

pub loop-i-preserved : goal.loop-i-preserved
loop-i-preserved c =
    let h = c.loop-i.invariant in
    record {
      some = h.some;
      short = h.short;
      walked = walked_more c.args.words.now h.short c.loop-i.check c.take.new.self c.loop-i.i c.loop-i-test.true h.walked c.in_ok-take.ensures;
    }

pub returns : goal.returns
returns c =
    let ws = c.args.words.now in
    let r = c.finish.result in
    let h = c.loop-i.invariant in
    let v = walked_all ws c.loop-i.i c.loop-i.check r (omega arith) h.short h.walked (λ i _. (c.type_inv.words i).fits) c.finish.ensures in
    record { verdict = v; only = only_refusal ws r v; law = reads ws r v }
