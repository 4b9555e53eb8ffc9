-- Words that are refused at their path or at the command's name.
use Rattle.std.proofs.Common.{◌≡◌, ◌≢◌, ℕ, ◌<◌, List, [], ◌∷◌, ◌++◌, length, take, get_or, codes, ap, sym, ◌∙◌, subst, arith}
use Rattle.std.proofs.lemmas.Grind.{common_steps}
use Rattle.bench_edges.specs.declared.words.Command.{Command}
use Rattle.bench_edges.specs.declared.words.Command.TheVariants.{Solve}
use Rattle.bench_edges.specs.Words.{SaysSolve, Says, BeginsCommand, IsRefusedAt}
use Rattle.bench_edges.proofs.Settings.{cons_head, cons_tail, not_nil}
use Rattle.bench_edges.proofs.Grammar.{IsStuck, command_called, name_of, name_said, refused_in}
use Rattle.bench_edges.proofs.SolveWords.{options_of, solve_says}

some_path : ◌≢◌ {A = List ℕ} (45 ∷ []) []
some_path e = not_nil _ _ (sym e)

-- the words begin with a path and a name
begins_from_nothing : BeginsCommand []
begins_from_nothing = ((45 ∷ []) ∷ codes "solve" ∷ [], Solve (options_of []), solve_says (45 ∷ []) some_path)

-- no word at all
pub refused_empty : (words : List (List ℕ)) → length words ≡ 0 → IsRefusedAt words 0
refused_empty words end = refused_in words 0 (omega arith) begins_from_nothing (λ inside. absurd (omega arith)) (λ _ command says. not_nil _ _ (command_called [] command says).spelling)

-- an empty path
pub refused_path : (words : List (List ℕ)) → 0 < length words → get_or words 0 [] ≡ [] → IsRefusedAt words 0
refused_path words within empty = refused_in words 0 (omega arith) begins_from_nothing (λ _. stuck) (λ end. absurd (omega arith))
  where
    stuck : IsStuck [] (get_or words 0 [])
    stuck rest command says =
        let front = command_called (get_or words 0 [] ∷ rest) command says in
        front.named (sym (cons_head _ _ _ _ front.spelling) ∙ empty)

-- a path, and then no command's name
pub refused_command : (words : List (List ℕ)) → 0 < length words → get_or words 0 [] ≢ [] → (1 < length words → (command : Command) → get_or words 1 [] ≢ name_of command) → IsRefusedAt words 1
refused_command words within named other = refused_in words 1 (omega arith) good stuck alone
  where
    path : List ℕ
    path = get_or words 0 []

    one : take 1 words ≡ path ∷ []
    one = grind (arith, common_steps)

    good : BeginsCommand (take 1 words)
    good = (codes "solve" ∷ [], Solve (options_of []), subst (λ (ws : List (List ℕ)). SaysSolve (ws ++ codes "solve" ∷ []) (options_of [])) (sym one) (solve_says path named))

    stuck : 1 < length words → IsStuck (take 1 words) (get_or words 1 [])
    stuck inside rest command says =
        let spelling : take 1 words ++ get_or words 1 [] ∷ rest ≡ path ∷ get_or words 1 [] ∷ rest = ap (λ (ws : List (List ℕ)). ws ++ get_or words 1 [] ∷ rest) one in
        other inside command (sym (name_said _ path (get_or words 1 []) rest command spelling says))

    alone : 1 ≡ length words → (command : Command) → Says (take 1 words) command → ⊥
    alone end command says =
        let front = command_called (take 1 words) command says in
        not_nil _ _ (cons_tail _ _ _ _ (sym one ∙ front.spelling))
