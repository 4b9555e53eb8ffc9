-- Which words say a command, which begin one, and where other words are refused.
use Rattle.std.proofs.Common.{◌≡◌, ◌≢◌, ℕ, ◌+◌, ◌<◌, ◌≤◌, ◌^◌, ◌==◌, List, [], ◌∷◌, ◌++◌, length, take, drop, get_or, Result, Ok, Err, IfOk, IfErr, unwrap_or, inl, codes, decimal, Bool, true, false, refl, ap, sym, ◌∙◌, subst, append_assoc, arith, rules}
use Rattle.std.proofs.lemmas.Grind.{common_steps}
use Rattle.std.proofs.lemmas.Fmt.{decimal_injective}
use Rattle.std.proofs.lemmas.List.{take-append-drop, take_all}
use Rattle.std.proofs.lemmas.Slice.Eq.{bytes_eq-Decides}
use Rattle.std.specs.List.{flat_map}
use Rattle.std.specs.Str.{bytes_eq}
use Rattle.bench_edges.specs.declared.words.Command.{Command}
use Rattle.bench_edges.specs.declared.words.Command.TheVariants.{Solve, Report, Certify, Verify, Learn, MakeTable, TableCheck, Generate}
use Rattle.bench_edges.specs.declared.words.Options.{Options}
use Rattle.bench_edges.specs.declared.words.WordsRefusal.{WordsRefusal}
use Rattle.bench_edges.specs.declared.words.SolveOption.{SolveOption}
use Rattle.bench_edges.specs.declared.words.SolveOption.TheVariants.{Workers, Depth, Pieces, Plies, Budget, Lease}
use Rattle.bench_edges.specs.Words.{Setting, AreSettings, setting_words, number_of, IsRootNumber, AreGenerated, SaysSolve, SaysNumbered, SaysGenerate, SaysPlain, Says, IsPlain, IsWithinLimits, BeginsCommand, IsRefusedAt}
use Rattle.strategy_certificate.specs.Tables.{IsTableSize}
use Rattle.bench_edges.proofs.Settings.{cons_head, cons_tail, same_settings, takes_number, is_two_or_three}

-- the commands' names

-- the word that says which command it is
abbrev pub name_of : Command → List ℕ
name_of (Solve options) = codes "solve"
name_of Report = codes "report"
name_of (Certify root) = codes "certify"
name_of Verify = codes "verify"
name_of Learn = codes "learn"
name_of (MakeTable pieces) = codes "table"
name_of TableCheck = codes "table-check"
name_of (Generate seed count) = codes "generate"

-- a word that is no command's name
pub no_name : (word : List ℕ) → word ≢ codes "solve" → word ≢ codes "report" → word ≢ codes "certify" → word ≢ codes "verify" → word ≢ codes "learn" → word ≢ codes "table" → word ≢ codes "table-check" → word ≢ codes "generate" → (command : Command) → word ≢ name_of command
no_name word solve report certify verify learn table table_check generate (Solve options) = solve
no_name word solve report certify verify learn table table_check generate Report = report
no_name word solve report certify verify learn table table_check generate (Certify root) = certify
no_name word solve report certify verify learn table table_check generate Verify = verify
no_name word solve report certify verify learn table table_check generate Learn = learn
no_name word solve report certify verify learn table table_check generate (MakeTable pieces) = table
no_name word solve report certify verify learn table table_check generate TableCheck = table_check
no_name word solve report certify verify learn table table_check generate (Generate seed count) = generate

names_differ : (one other : List ℕ) → bytes_eq one other ≡ false → one ≢ other
names_differ one other apart same =
    let wrong : false ≡ true = sym apart ∙ (bytes_eq-Decides one other).1 same in
    search rules

-- a path and this name stand in front of the words
pub record IsCalled (words : List (List ℕ)) (name : List ℕ) : Type 0 where
  pub path : List ℕ
  pub rest : List (List ℕ)
  pub spelling : words ≡ path ∷ name ∷ rest
  pub named : path ≢ []

-- they stand in front of a command's words
pub command_called : (words : List (List ℕ)) (command : Command) → Says words command → IsCalled words (name_of command)
command_called words (Solve options) says = record { path = says.path; rest = flat_map setting_words says.given; spelling = says.spelling; named = says.named }
command_called words Report says = record { path = says.path; rest = []; spelling = says.spelling; named = says.named }
command_called words (Certify root) says = record { path = says.0.path; rest = decimal root ∷ []; spelling = says.0.spelling; named = says.0.named }
command_called words Verify says = record { path = says.path; rest = []; spelling = says.spelling; named = says.named }
command_called words Learn says = record { path = says.path; rest = []; spelling = says.spelling; named = says.named }
command_called words (MakeTable pieces) says = record { path = says.0.path; rest = decimal pieces ∷ []; spelling = says.0.spelling; named = says.0.named }
command_called words TableCheck says = record { path = says.path; rest = []; spelling = says.spelling; named = says.named }
command_called words (Generate seed count) says = record { path = says.0.path; rest = decimal seed ∷ decimal count ∷ []; spelling = says.0.spelling; named = says.0.named }

-- so the words with a name say the command of this name alone
pub name_said : (words : List (List ℕ)) (path name : List ℕ) (rest : List (List ℕ)) (command : Command) → words ≡ path ∷ name ∷ rest → Says words command → name_of command ≡ name
name_said words path name rest command spelling says =
    let front = command_called words command says in
    cons_head _ _ _ _ (cons_tail _ _ _ _ (sym front.spelling ∙ spelling))

pub only_solve : (words : List (List ℕ)) (command : Command) → Says words command → name_of command ≡ codes "solve" → (options : Options) × ((command ≡ Solve options) × SaysSolve words options)
only_solve words (Solve options) says same = (options, (refl, says))
only_solve words Report says same = absurd (names_differ (codes "report") (codes "solve") refl same)
only_solve words (Certify root) says same = absurd (names_differ (codes "certify") (codes "solve") refl same)
only_solve words Verify says same = absurd (names_differ (codes "verify") (codes "solve") refl same)
only_solve words Learn says same = absurd (names_differ (codes "learn") (codes "solve") refl same)
only_solve words (MakeTable pieces) says same = absurd (names_differ (codes "table") (codes "solve") refl same)
only_solve words TableCheck says same = absurd (names_differ (codes "table-check") (codes "solve") refl same)
only_solve words (Generate seed count) says same = absurd (names_differ (codes "generate") (codes "solve") refl same)

pub only_table : (words : List (List ℕ)) (command : Command) → Says words command → name_of command ≡ codes "table" → (pieces : ℕ) × ((command ≡ MakeTable pieces) × (SaysNumbered (codes "table") words pieces × IsTableSize pieces))
only_table words (Solve options) says same = absurd (names_differ (codes "solve") (codes "table") refl same)
only_table words Report says same = absurd (names_differ (codes "report") (codes "table") refl same)
only_table words (Certify root) says same = absurd (names_differ (codes "certify") (codes "table") refl same)
only_table words Verify says same = absurd (names_differ (codes "verify") (codes "table") refl same)
only_table words Learn says same = absurd (names_differ (codes "learn") (codes "table") refl same)
only_table words (MakeTable pieces) says same = (pieces, (refl, says))
only_table words TableCheck says same = absurd (names_differ (codes "table-check") (codes "table") refl same)
only_table words (Generate seed count) says same = absurd (names_differ (codes "generate") (codes "table") refl same)

pub only_certify : (words : List (List ℕ)) (command : Command) → Says words command → name_of command ≡ codes "certify" → (root : ℕ) × ((command ≡ Certify root) × (SaysNumbered (codes "certify") words root × IsRootNumber root))
only_certify words (Solve options) says same = absurd (names_differ (codes "solve") (codes "certify") refl same)
only_certify words Report says same = absurd (names_differ (codes "report") (codes "certify") refl same)
only_certify words (Certify root) says same = (root, (refl, says))
only_certify words Verify says same = absurd (names_differ (codes "verify") (codes "certify") refl same)
only_certify words Learn says same = absurd (names_differ (codes "learn") (codes "certify") refl same)
only_certify words (MakeTable pieces) says same = absurd (names_differ (codes "table") (codes "certify") refl same)
only_certify words TableCheck says same = absurd (names_differ (codes "table-check") (codes "certify") refl same)
only_certify words (Generate seed count) says same = absurd (names_differ (codes "generate") (codes "certify") refl same)

pub only_generate : (words : List (List ℕ)) (command : Command) → Says words command → name_of command ≡ codes "generate" → (seed count : ℕ) × ((command ≡ Generate seed count) × (SaysGenerate words seed count × AreGenerated seed count))
only_generate words (Solve options) says same = absurd (names_differ (codes "solve") (codes "generate") refl same)
only_generate words Report says same = absurd (names_differ (codes "report") (codes "generate") refl same)
only_generate words (Certify root) says same = absurd (names_differ (codes "certify") (codes "generate") refl same)
only_generate words Verify says same = absurd (names_differ (codes "verify") (codes "generate") refl same)
only_generate words Learn says same = absurd (names_differ (codes "learn") (codes "generate") refl same)
only_generate words (MakeTable pieces) says same = absurd (names_differ (codes "table") (codes "generate") refl same)
only_generate words TableCheck says same = absurd (names_differ (codes "table-check") (codes "generate") refl same)
only_generate words (Generate seed count) says same = (seed, count, (refl, says))

pub only_plain : (command other : Command) → IsPlain command → name_of other ≡ name_of command → other ≡ command
only_plain (Solve options) other plain same = absurd plain
only_plain Report (Solve options) plain same = absurd (names_differ (codes "solve") (codes "report") refl same)
only_plain Report Report plain same = refl
only_plain Report (Certify root) plain same = absurd (names_differ (codes "certify") (codes "report") refl same)
only_plain Report Verify plain same = absurd (names_differ (codes "verify") (codes "report") refl same)
only_plain Report Learn plain same = absurd (names_differ (codes "learn") (codes "report") refl same)
only_plain Report (MakeTable pieces) plain same = absurd (names_differ (codes "table") (codes "report") refl same)
only_plain Report TableCheck plain same = absurd (names_differ (codes "table-check") (codes "report") refl same)
only_plain Report (Generate seed count) plain same = absurd (names_differ (codes "generate") (codes "report") refl same)
only_plain (Certify root) other plain same = absurd plain
only_plain Verify (Solve options) plain same = absurd (names_differ (codes "solve") (codes "verify") refl same)
only_plain Verify Report plain same = absurd (names_differ (codes "report") (codes "verify") refl same)
only_plain Verify (Certify root) plain same = absurd (names_differ (codes "certify") (codes "verify") refl same)
only_plain Verify Verify plain same = refl
only_plain Verify Learn plain same = absurd (names_differ (codes "learn") (codes "verify") refl same)
only_plain Verify (MakeTable pieces) plain same = absurd (names_differ (codes "table") (codes "verify") refl same)
only_plain Verify TableCheck plain same = absurd (names_differ (codes "table-check") (codes "verify") refl same)
only_plain Verify (Generate seed count) plain same = absurd (names_differ (codes "generate") (codes "verify") refl same)
only_plain Learn (Solve options) plain same = absurd (names_differ (codes "solve") (codes "learn") refl same)
only_plain Learn Report plain same = absurd (names_differ (codes "report") (codes "learn") refl same)
only_plain Learn (Certify root) plain same = absurd (names_differ (codes "certify") (codes "learn") refl same)
only_plain Learn Verify plain same = absurd (names_differ (codes "verify") (codes "learn") refl same)
only_plain Learn Learn plain same = refl
only_plain Learn (MakeTable pieces) plain same = absurd (names_differ (codes "table") (codes "learn") refl same)
only_plain Learn TableCheck plain same = absurd (names_differ (codes "table-check") (codes "learn") refl same)
only_plain Learn (Generate seed count) plain same = absurd (names_differ (codes "generate") (codes "learn") refl same)
only_plain (MakeTable pieces) other plain same = absurd plain
only_plain TableCheck (Solve options) plain same = absurd (names_differ (codes "solve") (codes "table-check") refl same)
only_plain TableCheck Report plain same = absurd (names_differ (codes "report") (codes "table-check") refl same)
only_plain TableCheck (Certify root) plain same = absurd (names_differ (codes "certify") (codes "table-check") refl same)
only_plain TableCheck Verify plain same = absurd (names_differ (codes "verify") (codes "table-check") refl same)
only_plain TableCheck Learn plain same = absurd (names_differ (codes "learn") (codes "table-check") refl same)
only_plain TableCheck (MakeTable pieces) plain same = absurd (names_differ (codes "table") (codes "table-check") refl same)
only_plain TableCheck TableCheck plain same = refl
only_plain TableCheck (Generate seed count) plain same = absurd (names_differ (codes "generate") (codes "table-check") refl same)
only_plain (Generate seed count) other plain same = absurd plain

-- how a plain command is said
pub plain_said : (words : List (List ℕ)) (command : Command) → IsPlain command → Says words command → SaysPlain (name_of command) words
plain_said words (Solve options) plain says = absurd plain
plain_said words Report plain says = says
plain_said words (Certify root) plain says = absurd plain
plain_said words Verify plain says = says
plain_said words Learn plain says = says
plain_said words (MakeTable pieces) plain says = absurd plain
plain_said words TableCheck plain says = says
plain_said words (Generate seed count) plain says = absurd plain

-- words say one command

same_options : (words : List (List ℕ)) (options others : Options) → SaysSolve words options → SaysSolve words others → options ≡ others
same_options words options others first second =
    let behind : flat_map setting_words second.given ≡ flat_map setting_words first.given = cons_tail _ _ _ _ (cons_tail _ _ _ _ (sym second.spelling ∙ first.spelling)) in
    let same : second.given ≡ first.given = same_settings first.given second.given first.settings second.settings behind in
    let workers : options.workers ≡ others.workers = first.workers ∙ ap (number_of Workers) (sym same) ∙ sym second.workers in
    let depth : options.depth ≡ others.depth = first.depth ∙ ap (number_of Depth) (sym same) ∙ sym second.depth in
    let pieces : options.pieces ≡ others.pieces = first.pieces ∙ ap (number_of Pieces) (sym same) ∙ sym second.pieces in
    let plies : options.plies ≡ others.plies = first.plies ∙ ap (number_of Plies) (sym same) ∙ sym second.plies in
    let budget : options.budget ≡ others.budget = first.budget ∙ ap (number_of Budget) (sym same) ∙ sym second.budget in
    let lease : options.lease ≡ others.lease = first.lease ∙ ap (number_of Lease) (sym same) ∙ sym second.lease in
    ap (λ (n : ℕ). record { workers = n; depth = options.depth; pieces = options.pieces; plies = options.plies; budget = options.budget; lease = options.lease }) workers
    ∙ ap (λ (n : ℕ). record { workers = others.workers; depth = n; pieces = options.pieces; plies = options.plies; budget = options.budget; lease = options.lease }) depth
    ∙ ap (λ (n : ℕ). record { workers = others.workers; depth = others.depth; pieces = n; plies = options.plies; budget = options.budget; lease = options.lease }) pieces
    ∙ ap (λ (n : ℕ). record { workers = others.workers; depth = others.depth; pieces = others.pieces; plies = n; budget = options.budget; lease = options.lease }) plies
    ∙ ap (λ (n : ℕ). record { workers = others.workers; depth = others.depth; pieces = others.pieces; plies = others.plies; budget = n; lease = options.lease }) budget
    ∙ ap (λ (n : ℕ). record { workers = others.workers; depth = others.depth; pieces = others.pieces; plies = others.plies; budget = others.budget; lease = n }) lease

-- a number is said by its digits
same_number : (name : List ℕ) (words : List (List ℕ)) (n m : ℕ) → n < 2 ^ 64 → m < 2 ^ 64 → SaysNumbered name words n → SaysNumbered name words m → n ≡ m
same_number name words n m one other first second =
    let behind = cons_tail _ _ _ _ (cons_tail _ _ _ _ (sym first.spelling ∙ second.spelling)) in
    decimal_injective n m one other (cons_head _ _ _ _ behind)

same_numbers : (words : List (List ℕ)) (seed count other many : ℕ) → AreGenerated seed count → AreGenerated other many → SaysGenerate words seed count → SaysGenerate words other many → Generate seed count ≡ Generate other many
same_numbers words seed count other many one two first second =
    let behind = cons_tail _ _ _ _ (cons_tail _ _ _ _ (sym first.spelling ∙ second.spelling)) in
    let seeds : seed ≡ other = decimal_injective seed other (omega arith) (omega arith) (cons_head _ _ _ _ behind) in
    let counts : count ≡ many = decimal_injective count many (omega arith) (omega arith) (cons_head _ _ _ _ (cons_tail _ _ _ _ behind)) in
    ap (λ n. Generate n count) seeds ∙ ap (λ n. Generate other n) counts

few_pieces : (pieces : ℕ) → IsTableSize pieces → pieces < 2 ^ 64
few_pieces pieces some = omega arith

one_name : (words : List (List ℕ)) (first second : Command) → Says words first → Says words second → name_of second ≡ name_of first
one_name words first second one two =
    let front = command_called words first one in
    name_said words front.path (name_of first) front.rest second front.spelling two

pub one_command : (words : List (List ℕ)) (first second : Command) → Says words first → Says words second → first ≡ second
one_command words (Solve options) second one two =
    let other = only_solve words second two (one_name words (Solve options) second one two) in
    ap (λ o. Solve o) (same_options words options other.0 one other.1.1) ∙ sym other.1.0
one_command words Report second one two = sym (only_plain Report second tt (one_name words Report second one two))
one_command words (Certify root) second one two =
    let other = only_certify words second two (one_name words (Certify root) second one two) in
    let limit = one.1.1 in
    let others = other.1.1.1.1 in
    ap (λ r. Certify r) (same_number (codes "certify") words root other.0 (omega arith) (omega arith) one.0 other.1.1.0) ∙ sym other.1.0
one_command words Verify second one two = sym (only_plain Verify second tt (one_name words Verify second one two))
one_command words Learn second one two = sym (only_plain Learn second tt (one_name words Learn second one two))
one_command words (MakeTable pieces) second one two =
    let other = only_table words second two (one_name words (MakeTable pieces) second one two) in
    ap (λ p. MakeTable p) (same_number (codes "table") words pieces other.0 (few_pieces pieces one.1) (few_pieces other.0 other.1.1.1) one.0 other.1.1.0) ∙ sym other.1.0
one_command words TableCheck second one two = sym (only_plain TableCheck second tt (one_name words TableCheck second one two))
one_command words (Generate seed count) second one two =
    let other = only_generate words second two (one_name words (Generate seed count) second one two) in
    same_numbers words seed count other.0 other.1 one.1 other.2.1.1 one.0 other.2.1.0 ∙ sym other.2.0

-- refusals

-- no command goes on with this word
abbrev pub IsStuck : List (List ℕ) → List ℕ → Type 0
IsStuck front word = (rest : List (List ℕ)) (command : Command) → Says (front ++ word ∷ rest) command → ⊥

pub refused_at : (words : List (List ℕ)) (at : ℕ) → at < length words → BeginsCommand (take at words) → IsStuck (take at words) (get_or words at []) → IsRefusedAt words at
refused_at words at within good stuck =
    let word = get_or words at [] in
    let cut : take at words ++ word ∷ drop (at + 1) words ≡ words = grind (arith, common_steps) in
    let with_it : take (at + 1) words ≡ take at words ++ word ∷ [] = grind (arith, common_steps) in
    record {
      no_command = λ command says. stuck (drop (at + 1) words) command (subst (λ (ws : List (List ℕ)). Says ws command) (sym cut) says);
      within = omega arith;
      good_before = good;
      bad_with_it = λ inside begins. stuck begins.0 begins.1 (subst (λ (ws : List (List ℕ)). Says ws begins.1) (ap (λ (ws : List (List ℕ)). ws ++ begins.0) with_it ∙ append_assoc (take at words) (word ∷ []) begins.0) begins.2);
    }

pub refused_end : (words : List (List ℕ)) (at : ℕ) → at ≡ length words → BeginsCommand words → ((command : Command) → Says words command → ⊥) → IsRefusedAt words at
refused_end words at end begins none = record {
  no_command = none;
  within = omega arith;
  good_before = rw (end, take_all (length words) words (omega arith)) begins;
  bad_with_it = λ inside _. omega arith;
}

-- Words are refused at a place where the words before it begin a command, where no command goes on with the word
-- there, and where no command ends before it.
pub refused_in : (words : List (List ℕ)) (at : ℕ) → at ≤ length words → BeginsCommand (take at words) → (at < length words → IsStuck (take at words) (get_or words at [])) → (at ≡ length words → (command : Command) → Says (take at words) command → ⊥) → IsRefusedAt words at
refused_in words at within begins stuck none = go (at == length words) refl
  where
    go : (b : Bool) → (at == length words) ≡ b → IsRefusedAt words at
    go true e =
        let end : at ≡ length words = grind (arith, common_steps) in
        let whole : take at words ≡ words = take_all at words (omega arith) in
        refused_end words at end (subst BeginsCommand whole begins) (λ command says. none end command (subst (λ (ws : List (List ℕ)). Says ws command) (sym whole) says))
    go false e =
        let inside : at < length words = grind (arith, common_steps) in
        refused_at words at inside begins (stuck inside)

-- the place of a refusal

Begins-front : (front back : List (List ℕ)) → BeginsCommand (front ++ back) → BeginsCommand front
Begins-front front back begins = (back ++ begins.0, begins.1, subst (λ (ws : List (List ℕ)). Says ws begins.1) (append_assoc front back begins.0) begins.2)

front_of_front : (words : List (List ℕ)) (few many : ℕ) → few ≤ many → take many words ≡ take few words ++ drop few (take many words)
front_of_front words few many less =
    let same : take few (take many words) ≡ take few words = grind (arith, common_steps) in
    sym (take-append-drop few (take many words)) ∙ ap (λ (ws : List (List ℕ)). ws ++ drop few (take many words)) same

not_later : (words : List (List ℕ)) (first second : ℕ) → IsRefusedAt words first → IsRefusedAt words second → first < second → ⊥
not_later words first second one two earlier =
    let within = two.within in
    one.bad_with_it (omega arith) (Begins-front (take (first + 1) words) (drop (first + 1) (take second words)) (subst BeginsCommand (front_of_front words (first + 1) second (omega arith)) two.good_before))

-- words are refused at one place
pub one_place : (words : List (List ℕ)) (first second : ℕ) → IsRefusedAt words first → IsRefusedAt words second → first ≡ second
one_place words first second one two =
    let up : ¬ (first < second) = not_later words first second one two in
    let down : ¬ (second < first) = not_later words second first two one in
    omega arith

-- the promises of `read_words` on its answer
abbrev pub IsAnswer : List (List ℕ) → Result Command WordsRefusal → Type 0
IsAnswer words answer = record {
  command : IfOk answer (λ command. Says words command);
  limits : IfOk answer (λ command. IsWithinLimits command);
  each_command : (command : Command) → Says words command → answer ≡ Ok command;
  refused : IfErr answer (λ refusal. IsRefusedAt words refusal.at);
  each_refusal : (at : ℕ) → IsRefusedAt words at → answer ≡ Err (record { at = at });
}

two_or_three : (given : List Setting) → AreSettings given → IsTableSize (number_of Pieces given)
two_or_three given all = let takes = takes_number Pieces given all in is_two_or_three (number_of Pieces given) takes.0 takes.1

-- the options that words say are within their limits
pub solve_limits : (words : List (List ℕ)) (options : Options) → SaysSolve words options → IsWithinLimits (Solve options)
solve_limits words options says = (
  rw says.workers (takes_number Workers says.given says.settings),
  (
    rw says.depth (takes_number Depth says.given says.settings).1,
    (
      rw says.plies (takes_number Plies says.given says.settings).1,
      (
        rw says.pieces (two_or_three says.given says.settings),
        (rw says.budget (takes_number Budget says.given says.settings).1, rw says.lease (takes_number Lease says.given says.settings)),
      ),
    ),
  ),
)

-- and so are all numbers that they say
says_limits : (words : List (List ℕ)) (command : Command) → Says words command → IsWithinLimits command
says_limits words (Solve options) says = solve_limits words options says
says_limits words Report says = tt
says_limits words (Certify root) says = says.1
says_limits words Verify says = tt
says_limits words Learn says = tt
says_limits words (MakeTable pieces) says = says.1
says_limits words TableCheck says = tt
says_limits words (Generate seed count) says = says.1

-- an answer that is right is the only one
pub one_answer : (words : List (List ℕ)) (answer : Result Command WordsRefusal) → IfOk answer (Says words) → IfErr answer (λ refusal. IsRefusedAt words refusal.at) → IsAnswer words answer
one_answer words (Ok first) says refused = record {
  command = says;
  limits = says_limits words first says;
  each_command = λ command other. ap (λ c. Ok c) (one_command words first command says other);
  refused = tt;
  each_refusal = λ at refusal. absurd (refusal.no_command first says);
}
one_answer words (Err first) says refused = record {
  command = tt;
  limits = tt;
  each_command = λ command other. absurd (refused.no_command command other);
  refused = refused;
  each_refusal = λ at refusal. ap (λ (at : ℕ). Err (record { at = at })) (one_place words first.at at refused refusal);
}

pub one_refusal : (words : List (List ℕ)) (at : ℕ) → IsRefusedAt words at → IsAnswer words (Err (record { at = at }))
one_refusal words at refused = one_answer words (Err (record { at = at })) tt refused
