use Rattle.std.proofs.Common.{◌≡◌, ℕ, List, ◌++◌, length, string_bytes, rules, sym, ap, ◌∙◌, subst, refl}
use Rattle.account.specs.Lines.{line_text, rule_text}
use Rattle.account.specs.Listed.{text_of}
use Rattle.std.proofs.lemmas.List.{length_push}
use Rattle.program.proofs.Iterations.{rule_given, all_given}
use Rattle.program.specs.Programs.{Rule, Over, rule_at}
use Rattle.word_format.specs.Showing.{form_of}
use Rattle.word_format.specs.Writing.{write_rule}
use Rattle.account.specs.Inspecting.{program_of}
use Rattle.account.proofs.Accounts.{program_limits, listed_more, listed_all, tallied_more, tallied_all}
use Rattle.account.proofs.report.push_lines.Goals as goal

pub loop-number-preserved : goal.loop-number-preserved
loop-number-preserved g c =
    let m = g.S.RuleSource.meaning c.args.source.now in
    let P = program_of m in
    let limits = program_limits m (g.S.RuleSource.small c.args.source.now) in
    let given = c.loop-number.yielded in
    let (there, same) = rule_given g.S.RuleSource.meaning _ _ c.next.new.self P.rules (cc) given c.loop-number.yielded_by _ c.next.ensures.steps c.in-Some.rule c.in-Some.is in
    let words = write_rule P.atoms (rule_at P.rules (length given)) in
    let over = subst (λ (r : Rule). Over P.atoms r) (sym same) (limits.2 (length given)) in
    let spelled = ap (write_rule P.atoms) same in
    let long : c.word_count-position.result ≡ length words = c.word_count-position.ensures.words P.atoms limits.0 over ∙ ap length spelled in
    let shown = c.of_sets.ensures P.atoms limits.0 over ∙ ap rule_text spelled in
    let wrote : string_bytes c.write.new.self ≡ string_bytes c.loop-number.text ++ line_text (length given) c.loop-number.position (text_of c.of_sets.result) = search rules in
    rw (long, length_push given c.in-Some.rule) (
    record {
      counted = search rules;
      listed =
          listed_more P limits (length given) there words (string_bytes c.args.text.now) (string_bytes c.loop-number.text) (string_bytes c.write.new.self) c.loop-number.position refl c.loop-number.invariant.listed
          (wrote ∙ ap (λ (t : List ℕ). string_bytes c.loop-number.text ++ line_text (length given) c.loop-number.position t) shown);
      tallied =
          tallied_more P limits (length given) c.form_of.result there (c.form_of.ensures P.atoms limits.0 over ∙ ap form_of spelled) c.loop-number.tally c.with-tally.result c.loop-number.invariant.tallied
          c.with-tally.ensures.facts c.with-tally.ensures.bodies c.with-tally.ensures.constraints;
    }
    )

pub returns : goal.returns
returns g c =
    let m = g.S.RuleSource.meaning c.args.source.now in
    let P = program_of m in
    let limits = program_limits m (g.S.RuleSource.small c.args.source.now) in
    let given = c.loop-number.yielded in
    let all = all_given g.S.RuleSource.meaning _ _ c.next.new.self P.rules (cc) given c.loop-number.yielded_by _ c.next.ensures.steps c.in-None.is in
    record {
      lines = listed_all P limits (length given) (string_bytes c.args.text.now) (string_bytes c.loop-number.text) c.loop-number.position all c.loop-number.invariant.listed;
      counts = tallied_all P limits (length given) c.loop-number.tally all c.loop-number.invariant.tallied;
    }
