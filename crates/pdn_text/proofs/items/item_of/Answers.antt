use Rattle.std.proofs.Common.{◌≡◌, ℕ, ◌+◌, ◌<◌, ◌≤◌, length, ap, arith, Result, Ok, Err, IfOk, length-drop}
use Rattle.pdn_text.specs.Forms.{form_of}
use Rattle.pdn_text.specs.Grammar.{word_len}
use Rattle.pdn_text.specs.declared.form.Form.TheVariants as form
use Rattle.pdn_text.specs.declared.items.Item.{Item}
use Rattle.pdn_text.specs.declared.refusal.PdnRefusal.{PdnRefusal}
use Rattle.pdn_text.proofs.FormChoice.{word_has_byte}
use Rattle.pdn_text.proofs.items.item_of.Goals as goal

pub overflow_add-at-in-Ok : goal.overflow_add-at-in-Ok
overflow_add-at-in-Ok c = omega (arith, c.in-Ok.ensures.inside, length-drop c.args.at c.args.text.now)

pub overflow_add-result : goal.overflow_add-result
overflow_add-result c = omega (arith, c.in-Err-Comment.ensures.comment c.in-Err-Comment.open (ap Err c.in-Err-Comment.field-0-is), length-drop c.args.at c.args.text.now)

-- the clauses on where the word ends, at an Ok
word_onward : (r : Result Item PdnRefusal) (at len : ℕ) → 0 < len → IfOk r (λ item. item.end ≡ at + len) → IfOk r (λ item. at < item.end)
word_onward (Ok item) at len some e = omega arith
word_onward (Err e) at len some h = tt

word_inside : (r : Result Item PdnRefusal) (at len most : ℕ) → at + len ≤ most → IfOk r (λ item. item.end ≡ at + len) → IfOk r (λ item. item.end ≤ most)
word_inside (Ok item) at len most fits e = omega arith
word_inside (Err e) at len most fits h = tt

pub returns-in-Word-clause-onward : goal.returns-in-Word-clause-onward
returns-in-Word-clause-onward c =
    let rest = c.split_at.result.1.now in
    let word : form_of c.args.line_start rest ≡ form.Word = cc in
    word_onward c.word_at.result c.args.at (word_len rest) (word_has_byte c.args.line_start rest word) c.word_at.ensures.end

pub returns-in-Word-clause-inside : goal.returns-in-Word-clause-inside
returns-in-Word-clause-inside c =
    let rest = c.split_at.result.1.now in
    let short : length rest + c.args.at ≡ length c.args.text.now = omega arith in
    word_inside c.word_at.result c.args.at (word_len rest) (length c.args.text.now) (omega (arith, c.word_at.ensures.inside)) c.word_at.ensures.end
