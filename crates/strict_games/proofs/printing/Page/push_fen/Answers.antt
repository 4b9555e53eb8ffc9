use Rattle.std.proofs.Common.{◌≡◌, ◌∙◌, ◌∷◌, [], not, true, subst, sym}
use Rattle.std.specs.Prelude.{codes}
use Rattle.std.specs.List.{list_all}
use Rattle.fen_text.proofs.Plain.{printed_is_plain}
use Rattle.fen_text.specs.Printed.{fen_of}
use Rattle.pdn_text.specs.Bytes.{is_line_end}
use Rattle.strict_games.proofs.Printed.{plain_line}
use Rattle.strict_games.specs.Pages.{PageSays}
use Rattle.strict_games.proofs.printing.Page.push_fen.Goals as goal

pub lay_tag-requires-clause-one_line : goal.lay_tag-requires-clause-one_line
lay_tag-requires-clause-one_line c =
    let p = c.args.p.now in
    let is : c.as_bytes.result.now ≡ fen_of p = c.as_bytes.ensures.value ∙ c.deref.ensures.0 ∙ c.print_fen-fen.ensures.text in
    subst (λ bytes. list_all (λ b. not (is_line_end b)) bytes ≡ true) (sym is) (plain_line (fen_of p) (printed_is_plain p c.print_fen-fen.ensures.lawful))

pub returns-clause-says : goal.returns-clause-says
returns-clause-says c =
    let p = c.args.p.now in
    let is : c.as_bytes.result.now ≡ fen_of p = c.as_bytes.ensures.value ∙ c.deref.ensures.0 ∙ c.print_fen-fen.ensures.text in
    (c.print_fen-fen.ensures.lawful, λ s. subst (λ v. PageSays c.lay_tag.new.self (record { name = codes "FEN"; value = v } ∷ []) []) is (c.in_ok-lay_tag.ensures.says [] s))
