-- What stands in a report is true of its roots.
use Rattle.std.proofs.Common.{◌≡◌, ◌≢◌, ℕ, ◌+◌, ◌-◌, ◌<◌, ◌^◌, inl, inr, List, [], ◌∷◌, ◌++◌, Option, None, Some, refl, sym, ◌∙◌, ap, subst, arith, length, get_or, take, drop, append_assoc, lit<}
use Rattle.std.specs.Prelude.{Contains, decimal, codes, is_some}
use Rattle.std.specs.List.{AllByRecursion}
use Rattle.std.proofs.lemmas.List.Elements.{Contains-push_cases, Contains-append_left}
use Rattle.std.proofs.lemmas.List.Sums.{count_by-le-length}
use Rattle.draughts_board.specs.declared.pieces.Value.{Value}
use Rattle.draughts_board.specs.declared.pieces.Value.TheVariants.{BlackWins, WhiteWins, Draw}
use Rattle.draughts_board.specs.Board.{Board, IsLawful}
use Rattle.draughts_board.specs.Game.{HasValue}
use Rattle.draughts_board.specs.Draughts.{draughts}
use Rattle.draughts_board.proofs.Members.{Contains-nil, Contains-cons_cases, Contains-head, Contains-tail, only_one}
use Rattle.fen_text.specs.Printed.{fen_of}
use Rattle.opening_report.specs.declared.roots.Root.{Root}
use Rattle.shared_words.specs.Bytes.{Lacks}
use Rattle.opening_report.specs.Lines.{IsLine, HasLine}
use Rattle.opening_report.specs.Report.{value_word, root_line, root_lines, settled_count, summary_line, report_lines, report_of, ValuesAreTrue, SaysRoots, SaysNoRoot, StandsOnce, AreTrueRoots, AreApart}
use Rattle.opening_report.specs.declared.refusals.Refusal.{Refusal}
use Rattle.opening_report.specs.declared.refusals.Refusal.TheVariants as refusal
use Rattle.opening_report.specs.Refusals.{refusal_text}
use Rattle.std.proofs.lemmas.Fmt.{decimal_injective}
use Rattle.std.proofs.lemmas.List.{append-nil}
use Rattle.std.proofs.lemmas.Grind.{common_steps}
use Rattle.shared_words.proofs.LackingBytes.{Lacks-append, halves_agree}
use Rattle.shared_words.proofs.Numerals.{Lacks-decimal}
use Rattle.opening_report.proofs.LineLemmas.{line_among, line_stands}
use Rattle.fen_text.proofs.Plain.{Lacks-fen}
use Rattle.fen_text.proofs.Plain.{printed_tells_apart}

-- ---- a root's line is a line

Lacks-word : (v : Option Value) → Lacks 10 (value_word v)
Lacks-word None = refl
Lacks-word (Some BlackWins) = refl
Lacks-word (Some WhiteWins) = refl
Lacks-word (Some Draw) = refl

root_body : ℕ → Board → Option Value → List ℕ
root_body n p v = codes "root " ++ (decimal n ++ 32 ∷ (fen_of p ++ 32 ∷ value_word v))

blank_then : (text : List ℕ) → Lacks 10 text → Lacks 10 (32 ∷ text)
blank_then text h = h

Lacks-root_body : (n : ℕ) (p : Board) (v : Option Value) → n < 2 ^ 64 → IsLawful p → Lacks 10 (root_body n p v)
unfolding root_body
Lacks-root_body n p v l lawful =
    let word : List ℕ = 32 ∷ value_word v in
    let position : List ℕ = 32 ∷ (fen_of p ++ word) in
    let number : List ℕ = decimal n ++ position in
    let with_position : Lacks 10 position = blank_then (fen_of p ++ word) (Lacks-append 10 (fen_of p) word (Lacks-fen 10 p refl lawful) (blank_then (value_word v) (Lacks-word v))) in
    let with_number : Lacks 10 number = Lacks-append 10 (decimal n) position (Lacks-decimal 10 n refl l) with_position in
    Lacks-append 10 (codes "root ") number refl with_number

pub root_line-is_line : (n : ℕ) (p : Board) (v : Option Value) → n < 2 ^ 64 → IsLawful p → IsLine (root_line n p v)
unfolding root_body
root_line-is_line n p v l lawful = (
  root_body n p v,
  (
    Lacks-root_body n p v l lawful,
    sym (append_assoc (codes "root ") (decimal n ++ 32 ∷ (fen_of p ++ 32 ∷ value_word v)) (10 ∷ [])
        ∙ ap (λ t. codes "root " ++ t) (append_assoc (decimal n) (32 ∷ (fen_of p ++ 32 ∷ value_word v)) (10 ∷ [])
        ∙ ap (λ t. decimal n ++ 32 ∷ t) (append_assoc (fen_of p) (32 ∷ value_word v) (10 ∷ [])))),
  ),
)

abbrev pub AllLawful : List Root → Type 0
AllLawful roots = (r : Root) → Contains roots r → IsLawful r.position

root_lines-are_lines : (n : ℕ) (roots : List Root) → n + length roots < 2 ^ 64 → AllLawful roots → AllByRecursion IsLine (root_lines n roots)
root_lines-are_lines n [] l lawful = tt
root_lines-are_lines n (r ∷ roots) l lawful = (
  root_line-is_line n r.position r.value (omega arith) (lawful r (Contains-head r roots)),
  root_lines-are_lines (n + 1) roots (omega arith) (λ q h. lawful q (Contains-tail r q roots h)),
)

-- ---- so is the summary

summary_body : List Root → List ℕ
summary_body roots =
    codes "roots " ++ (decimal (length roots) ++ (codes " settled " ++ (decimal (settled_count roots)
    ++ (codes " unsolved " ++ decimal (length roots - settled_count roots)))))

pub summary_line-is_line : (roots : List Root) → length roots < 2 ^ 64 → IsLine (summary_line roots)
unfolding summary_body
summary_line-is_line roots l =
    let few : settled_count roots < 2 ^ 64 = (let h = count_by-le-length (λ (r : Root). is_some r.value) roots in omega (arith, h)) in
    let left : length roots - settled_count roots < 2 ^ 64 = omega arith in
    let open_count : List ℕ = decimal (length roots - settled_count roots) in
    let unsolved : List ℕ = codes " unsolved " ++ open_count in
    let settled : List ℕ = decimal (settled_count roots) ++ unsolved in
    let settled_word : List ℕ = codes " settled " ++ settled in
    let total : List ℕ = decimal (length roots) ++ settled_word in
    let with_unsolved : Lacks 10 unsolved = Lacks-append 10 (codes " unsolved ") open_count refl (Lacks-decimal 10 (length roots - settled_count roots) refl left) in
    let with_settled : Lacks 10 settled = Lacks-append 10 (decimal (settled_count roots)) unsolved (Lacks-decimal 10 (settled_count roots) refl few) with_unsolved in
    let with_word : Lacks 10 settled_word = Lacks-append 10 (codes " settled ") settled refl with_settled in
    let with_total : Lacks 10 total = Lacks-append 10 (decimal (length roots)) settled_word (Lacks-decimal 10 (length roots) refl l) with_word in
    let with_roots : Lacks 10 (summary_body roots) = Lacks-append 10 (codes "roots ") total refl with_total in (
      summary_body roots,
      (
        with_roots,
        sym (append_assoc (codes "roots ") _ (10 ∷ [])
            ∙ ap (λ t. codes "roots " ++ t) (append_assoc (decimal (length roots)) _ (10 ∷ [])
            ∙ ap (λ t. decimal (length roots) ++ t) (append_assoc (codes " settled ") _ (10 ∷ [])
            ∙ ap (λ t. codes " settled " ++ t) (append_assoc (decimal (settled_count roots)) _ (10 ∷ [])
            ∙ ap (λ t. decimal (settled_count roots) ++ t) (append_assoc (codes " unsolved ") (decimal (length roots - settled_count roots)) (10 ∷ [])))))),
      ),
    )

push_lines : (lines : List (List ℕ)) (line : List ℕ) → AllByRecursion IsLine lines → IsLine line → AllByRecursion IsLine (lines ++ line ∷ [])
push_lines [] line each one = (one, tt)
push_lines (l ∷ lines) line each one = (each.0, push_lines lines line each.1 one)

pub report_lines-are_lines : (roots : List Root) → 1 + length roots < 2 ^ 64 → AllLawful roots → AllByRecursion IsLine (report_lines roots)
report_lines-are_lines roots l lawful = push_lines (root_lines 1 roots) (summary_line roots) (root_lines-are_lines 1 roots l lawful) (summary_line-is_line roots (omega arith))

-- ---- what a root's line says

first_differ : (a b : List ℕ) (x y : ℕ) → x ≢ y → get_or a 0 0 ≡ x → get_or b 0 0 ≡ y → a ≡ b → ⊥
first_differ a b x y n f g e = n (sym f ∙ ap (λ t. get_or t 0 0) e ∙ g)

word_of-tells : (v w : Option Value) → value_word v ++ 10 ∷ [] ≡ value_word w ++ 10 ∷ [] → v ≡ w
word_of-tells (Some BlackWins) (Some BlackWins) e = refl
word_of-tells (Some BlackWins) (Some WhiteWins) e = absurd (first_differ (value_word (Some BlackWins) ++ 10 ∷ []) (value_word (Some WhiteWins) ++ 10 ∷ []) 98 119 (λ h. omega (arith, h)) refl refl e)
word_of-tells (Some BlackWins) (Some Draw) e = absurd (first_differ (value_word (Some BlackWins) ++ 10 ∷ []) (value_word (Some Draw) ++ 10 ∷ []) 98 100 (λ h. omega (arith, h)) refl refl e)
word_of-tells (Some BlackWins) None e = absurd (first_differ (value_word (Some BlackWins) ++ 10 ∷ []) (value_word None ++ 10 ∷ []) 98 117 (λ h. omega (arith, h)) refl refl e)
word_of-tells (Some WhiteWins) (Some BlackWins) e = absurd (first_differ (value_word (Some WhiteWins) ++ 10 ∷ []) (value_word (Some BlackWins) ++ 10 ∷ []) 119 98 (λ h. omega (arith, h)) refl refl e)
word_of-tells (Some WhiteWins) (Some WhiteWins) e = refl
word_of-tells (Some WhiteWins) (Some Draw) e = absurd (first_differ (value_word (Some WhiteWins) ++ 10 ∷ []) (value_word (Some Draw) ++ 10 ∷ []) 119 100 (λ h. omega (arith, h)) refl refl e)
word_of-tells (Some WhiteWins) None e = absurd (first_differ (value_word (Some WhiteWins) ++ 10 ∷ []) (value_word None ++ 10 ∷ []) 119 117 (λ h. omega (arith, h)) refl refl e)
word_of-tells (Some Draw) (Some BlackWins) e = absurd (first_differ (value_word (Some Draw) ++ 10 ∷ []) (value_word (Some BlackWins) ++ 10 ∷ []) 100 98 (λ h. omega (arith, h)) refl refl e)
word_of-tells (Some Draw) (Some WhiteWins) e = absurd (first_differ (value_word (Some Draw) ++ 10 ∷ []) (value_word (Some WhiteWins) ++ 10 ∷ []) 100 119 (λ h. omega (arith, h)) refl refl e)
word_of-tells (Some Draw) (Some Draw) e = refl
word_of-tells (Some Draw) None e = absurd (first_differ (value_word (Some Draw) ++ 10 ∷ []) (value_word None ++ 10 ∷ []) 100 117 (λ h. omega (arith, h)) refl refl e)
word_of-tells None (Some BlackWins) e = absurd (first_differ (value_word None ++ 10 ∷ []) (value_word (Some BlackWins) ++ 10 ∷ []) 117 98 (λ h. omega (arith, h)) refl refl e)
word_of-tells None (Some WhiteWins) e = absurd (first_differ (value_word None ++ 10 ∷ []) (value_word (Some WhiteWins) ++ 10 ∷ []) 117 119 (λ h. omega (arith, h)) refl refl e)
word_of-tells None (Some Draw) e = absurd (first_differ (value_word None ++ 10 ∷ []) (value_word (Some Draw) ++ 10 ∷ []) 117 100 (λ h. omega (arith, h)) refl refl e)
word_of-tells None None e = refl

-- two lines that are the same say the same
pub record SaysSame (n m : ℕ) (p q : Board) (v w : Option Value) : Type 0 where
  pub number : n ≡ m
  pub position : p ≡ q
  pub value : v ≡ w

root_line-tells : (n m : ℕ) (p q : Board) (v w : Option Value) → n < 2 ^ 64 → m < 2 ^ 64 → IsLawful p → IsLawful q → root_line n p v ≡ root_line m q w → SaysSame n m p q v w
root_line-tells n m p q v w ln lm lp lq e =
    let numbers = halves_agree 32 (decimal n) (decimal m) (fen_of p ++ 32 ∷ (value_word v ++ 10 ∷ [])) (fen_of q ++ 32 ∷ (value_word w ++ 10 ∷ []))
    (Lacks-decimal 32 n refl ln) (Lacks-decimal 32 m refl lm) (ap (drop 5) e) in
    let fens = halves_agree 32 (fen_of p) (fen_of q) (value_word v ++ 10 ∷ []) (value_word w ++ 10 ∷ []) (Lacks-fen 32 p refl lp) (Lacks-fen 32 q refl lq) numbers.1 in
    record { number = decimal_injective n m ln lm numbers.0; position = printed_tells_apart p q lp lq fens.0; value = word_of-tells v w fens.1 }

no_summary : (n : ℕ) (p : Board) (v : Option Value) (roots : List Root) → root_line n p v ≡ summary_line roots → ⊥
no_summary n p v roots e = let h : ◌≡◌ {A = ℕ} 32 115 = ap (λ t. get_or t 4 0) e in omega (arith, h)

-- the line of one of the roots
line_of_root : (m : ℕ) (roots : List Root) (line : List ℕ) → m + length roots < 2 ^ 64 → Contains (root_lines m roots) line
    → (k : ℕ) × ((r : Root) × (Contains roots r × ((k < 2 ^ 64) × (root_line k r.position r.value ≡ line))))
line_of_root m [] line l h = absurd (Contains-nil line h)
line_of_root m (r ∷ roots) line l h =
    elim (Contains-cons_cases (root_line m r.position r.value) (root_lines (m + 1) roots) line h) [
      | inl e ↦ (m, (r, (Contains-head r roots, (omega arith, e))))
      | inr rest ↦ (let found = line_of_root (m + 1) roots line (omega arith) rest in (found.0, (found.1.0, (Contains-tail r found.1.0 roots found.1.1.0, found.1.1.1))))
    ]

-- a root's line in a front of the report is one of the roots' lines
line_in_front : (roots : List Root) (front back : List ℕ) (n : ℕ) (p : Board) (v : Option Value) → 1 + length roots < 2 ^ 64 → AllLawful roots → report_of roots ≡ front ++ back
    → n < 2 ^ 64 → IsLawful p → HasLine front (root_line n p v) → Contains (root_lines 1 roots) (root_line n p v)
line_in_front roots front back n p v few lawful whole small right has =
    let line : List ℕ = root_line n p v in
    let stands : has.before ++ (line ++ (has.after ++ back)) ≡ report_of roots =
    ap (λ t. has.before ++ t) (sym (append_assoc line has.after back)) ∙ sym (append_assoc has.before (line ++ has.after) back) ∙ ap (λ t. t ++ back) (sym has.split) ∙ sym whole in
    let among = line_among (report_lines roots) has.before line (has.after ++ back) (report_lines-are_lines roots few lawful) (root_line-is_line n p v small right) has.begins stands in
    elim (Contains-push_cases (root_lines 1 roots) (summary_line roots) line among) [ inl mine ↦ mine | inr last ↦ absurd (no_summary n p v roots (sym last)) ]

all_lawful : (roots : List Root) → AreTrueRoots roots → AllLawful roots
all_lawful roots right r h = (right r h).lawful

-- the front of a report says its roots alone
pub report-says_lawful : (roots : List Root) (front back : List ℕ) → 1 + length roots < 2 ^ 64 → AllLawful roots → report_of roots ≡ front ++ back → SaysRoots roots front
report-says_lawful roots front back few lawful_roots whole n p v small lawful has =
    of_root (line_of_root 1 roots (root_line n p v) few (line_in_front roots front back n p v few lawful_roots whole small lawful has))
  where
    of_root : (k : ℕ) × ((r : Root) × (Contains roots r × ((k < 2 ^ 64) × (root_line k r.position r.value ≡ root_line n p v)))) → Contains roots (record { position = p; value = v })
    of_root (k, (r, (member, (below, same)))) =
        let said = root_line-tells k n r.position p r.value v below small (lawful_roots r member) lawful same in
        subst (λ q. Contains roots (record { position = q; value = v })) said.position
        (subst (λ w. Contains roots (record { position = r.position; value = w })) said.value member)

pub report-says_roots : (roots : List Root) (front back : List ℕ) → 1 + length roots < 2 ^ 64 → AreTrueRoots roots → report_of roots ≡ front ++ back → SaysRoots roots front
report-says_roots roots front back few right whole = report-says_lawful roots front back few (all_lawful roots right) whole

-- and so true values alone
pub report-is_true : (roots : List Root) (front back : List ℕ) → 1 + length roots < 2 ^ 64 → AreTrueRoots roots → report_of roots ≡ front ++ back → ValuesAreTrue front
report-is_true roots front back few right whole n p v small lawful has =
    (right (record { position = p; value = Some v }) (report-says_roots roots front back few right whole n p (Some v) small lawful has)).right v refl

-- a text that says no root says no value
pub no_root-is_true : (text : List ℕ) → SaysNoRoot text → ValuesAreTrue text
no_root-is_true text none n p v small lawful has = absurd (Contains-nil (record { position = p; value = Some v }) (none n p (Some v) small lawful has))

-- ---- each root's line stands once

record OneLine (m : ℕ) (roots : List Root) (r : Root) : Type 0 where
  pub number : ℕ
  pub small : number < 2 ^ 64
  pub stands : Contains (root_lines m roots) (root_line number r.position r.value)
  pub once : (n : ℕ) (v : Option Value) → n < 2 ^ 64 → Contains (root_lines m roots) (root_line n r.position v) → (n ≡ number) × (v ≡ r.value)

one_line : (m : ℕ) (roots : List Root) (r : Root) → m + length roots < 2 ^ 64 → AllLawful roots → AreApart roots → Contains roots r → OneLine m roots r
one_line m [] r few lawful apart h = absurd (Contains-nil r h)
one_line m (q ∷ roots) r few lawful apart h = elim (Contains-cons_cases q roots r h) [ inl same ↦ here same | inr further ↦ behind further (one_line (m + 1) roots r (omega arith) (λ x k. lawful x (Contains-tail q x roots k)) apart.1 further) ]
  where
    right_r : IsLawful r.position
    right_r = lawful r h

    right_q : IsLawful q.position
    right_q = lawful q (Contains-head q roots)

    here : q ≡ r → OneLine m (q ∷ roots) r
    here same = record {
      number = m;
      small = omega arith;
      stands = subst (λ x. Contains (root_lines m (q ∷ roots)) (root_line m x.position x.value)) same (Contains-head (root_line m q.position q.value) (root_lines (m + 1) roots));
      once = λ n v small k. elim (Contains-cons_cases (root_line m q.position q.value) (root_lines (m + 1) roots) (root_line n r.position v) k) [
        | inl e ↦ (let said = root_line-tells m n q.position r.position q.value v (omega arith) small right_q right_r e in (sym said.number, sym said.value ∙ ap (λ (x : Root). x.value) same))
        | inr rest ↦ (let found = line_of_root (m + 1) roots (root_line n r.position v) (omega arith) rest in
            let said = root_line-tells found.0 n found.1.0.position r.position found.1.0.value v found.1.1.1.0 small (lawful found.1.0 (Contains-tail q found.1.0 roots found.1.1.0)) right_r found.1.1.1.1 in
            absurd (apart.0 found.1.0 found.1.1.0 (ap (λ (x : Root). x.position) same ∙ sym said.position)))
      ];
    }

    behind : Contains roots r → OneLine (m + 1) roots r → OneLine m (q ∷ roots) r
    behind further one = record {
      number = one.number;
      small = one.small;
      stands = Contains-tail (root_line m q.position q.value) (root_line one.number r.position r.value) (root_lines (m + 1) roots) one.stands;
      once = λ n v small k. elim (Contains-cons_cases (root_line m q.position q.value) (root_lines (m + 1) roots) (root_line n r.position v) k) [
        | inl e ↦ absurd (apart.0 r further ((root_line-tells m n q.position r.position q.value v (omega arith) small right_q right_r e).position))
        | inr rest ↦ one.once n v small rest
      ];
    }

pub roots_stand_once : (roots : List Root) (r : Root) → 1 + length roots < 2 ^ 64 → AreTrueRoots roots → AreApart roots → Contains roots r → StandsOnce (report_of roots) r.position
roots_stand_once roots r few right apart h =
    let lawful = all_lawful roots right in
    let one = one_line 1 roots r few lawful apart h in
    record {
      number = one.number;
      value = r.value;
      small = one.small;
      stands = line_stands (report_lines roots) (root_line one.number r.position r.value) (report_lines-are_lines roots few lawful)
          (Contains-append_left (root_lines 1 roots) (summary_line roots ∷ []) (root_line one.number r.position r.value) one.stands);
      once = λ n v small has. one.once n v small (line_in_front roots (report_of roots) [] n r.position v few lawful (sym (append-nil (report_of roots))) small (lawful r h) has);
    }

-- ---- refusals

-- a whole line of a text that is one line is that line
pub other_line_says_no_root : (text front back : List ℕ) → IsLine text → take 5 text ≢ codes "root " → text ≡ front ++ back → SaysNoRoot front
other_line_says_no_root text front back one other whole n p v small lawful has =
    let line : List ℕ = root_line n p v in
    let stands : has.before ++ (line ++ (has.after ++ back)) ≡ text ++ [] =
    ap (λ t. has.before ++ t) (sym (append_assoc line has.after back)) ∙ sym (append_assoc has.before (line ++ has.after) back) ∙ ap (λ t. t ++ back) (sym has.split) ∙ sym whole ∙ sym (append-nil text) in
    let among = line_among (text ∷ []) has.before line (has.after ++ back) (one, tt) (root_line-is_line n p v small lawful) has.begins stands in
    let same : take 5 text ≡ take 5 line = ap (λ t. take 5 t) (only_one text line among) in
    absurd (other same)

pub text_without_roots_says_none : (text : List ℕ) → ((before after : List ℕ) → text ≢ before ++ (codes "root " ++ after)) → SaysNoRoot text
text_without_roots_says_none text without n p v small lawful has =
    let rest : List ℕ = decimal n ++ 32 ∷ (fen_of p ++ 32 ∷ (value_word v ++ 10 ∷ [])) in
    absurd (without has.before (rest ++ has.after) (has.split ∙ ap (λ t. has.before ++ t) (append_assoc (codes "root ") rest has.after)))

second_byte : (r : Refusal) → get_or (refusal_text r) 1 0 ≡ 101
second_byte (refusal.Words at) = refl
second_byte refusal.TooLong = refl
second_byte (refusal.PdnBadByte at) = refl
second_byte (refusal.PdnOpenTag at) = refl
second_byte (refusal.PdnOpenComment at) = refl
second_byte (refusal.PdnOpenVariation at) = refl
second_byte (refusal.PdnBadMove at) = refl
second_byte refusal.PdnTooManyGames = refl
second_byte (refusal.OtherGame game) = refl
second_byte (refusal.Fen game fault) = refl
second_byte (refusal.Illegal game ply at) = refl
second_byte (refusal.Ambiguous game ply at) = refl
second_byte (refusal.TextBadLine n) = refl
second_byte (refusal.TextBadFen n) = refl
second_byte (refusal.TextDoubled n) = refl
second_byte refusal.TextTruncated = refl
second_byte (refusal.TextAfterEnd n) = refl
second_byte refusal.ClaimNotMet = refl
second_byte (refusal.BadRank part entry) = refl
second_byte (refusal.BadMove part entry) = refl
second_byte (refusal.Missing part entry) = refl
second_byte (refusal.StuckHolder part entry) = refl
second_byte (refusal.CheckNoRoot part) = refl
second_byte refusal.TableBadHead = refl
second_byte (refusal.TableWrongLength found due) = refl
second_byte (refusal.TableBadEntry index kept) = refl
second_byte refusal.TooManyRoots = refl
second_byte (refusal.NoRoot n) = refl
second_byte (refusal.UnsettledRoot n) = refl
second_byte (refusal.RootExpanded n) = refl
second_byte refusal.Disk = refl
second_byte refusal.NotAJournal = refl
second_byte (refusal.OtherTable found asked) = refl
second_byte (refusal.Damaged at) = refl
second_byte refusal.Memory = refl
second_byte refusal.Read = refl

pub refusal_says_no_root : (r : Refusal) (front back : List ℕ) → IsLine (refusal_text r) → refusal_text r ≡ front ++ back → SaysNoRoot front
refusal_says_no_root r front back one whole = other_line_says_no_root (refusal_text r) front back one other whole
  where
    other : take 5 (refusal_text r) ≢ codes "root "
    other same =
        let second : get_or (take 5 (refusal_text r)) 1 0 ≡ get_or (refusal_text r) 1 0 = grind (arith, common_steps) in
        let h : ◌≡◌ {A = ℕ} 101 111 = sym (second_byte r) ∙ sym second ∙ ap (λ t. get_or t 1 0) same in
        omega (arith, h)
