use Rattle.std.proofs.Common.{rules, ◌≡◌, ℕ, false}
use Rattle.atoms.specs.Member.{has}
use Rattle.program.specs.Rules.{as_rule}
use Rattle.account.proofs.Forms.{no_heads, no_body, some_need, some_bar}
use Rattle.account.proofs.report.form_of.Goals as goal
use Rattle.account.proofs.report.form_of.Goals.{else-is_empty-2-via-then-is_empty-2+else-is_empty-3, else-is_empty-2-via-else-is_empty-2}

pub returns-then-is_empty : goal.returns-then-is_empty
returns-then-is_empty c = λ n small over. no_heads n (as_rule c.args.rule.now) small over (search rules)

pub returns-then-is_empty-3 : goal.returns-then-is_empty-3
returns-then-is_empty-3 c = λ n small over. no_body n (as_rule c.args.rule.now) small over (search rules) (search rules) (search rules)

pub returns : goal.returns
returns c = λ n small over.
    let some_head : ((i : ℕ) → has c.args.rule.now.heads i ≡ false) → ⊥ = search rules in
    elim c.else-is_empty-2.branch [
      | else-is_empty-2-via-then-is_empty-2+else-is_empty-3 w ↦ some_bar n (as_rule c.args.rule.now) small over some_head (search rules)
      | else-is_empty-2-via-else-is_empty-2 w ↦ some_need n (as_rule c.args.rule.now) small over some_head (search rules)
    ]
