-- Which words ask for something, and where others are refused.
use Rattle.std.proofs.Common.{◌≡◌, ◌≢◌, ◌<◌, ◌+◌, ℕ, suc, List, [], ◌∷◌, false, refl, sym, ◌∙◌, ap, subst, arith, length, take, drop, get_or, codes}
use Rattle.std.specs.Prelude.{IfErr, IfOk, Result, Ok, Err}
use Rattle.bench_edges.specs.declared.words.WordsRefusal.{WordsRefusal}
use Rattle.view_words.specs.Words.{BeginsRequest, IsCalled, IsRefusedAt, IsWithin, Says, behind, kind_of, kind_word, spelled}
use Rattle.view_words.specs.declared.requests.Kind.{Kind}
use Rattle.view_words.specs.declared.requests.Kind.TheVariants as kind
use Rattle.view_words.specs.declared.requests.Request.{Request}
use Rattle.view_words.specs.declared.requests.Request.TheVariants.{Roots, Line, Tree, Page, Records}
use Rattle.view_words.proofs.CommandWords.{Tail, line_once, page_once, records_once, roots_once, tail_parts, tail_said, tree_once}
use Rattle.view_words.proofs.Languages.{cons_head, cons_tail, not_cons, Refused, behind_word}

-- ---- what is shown, by its word

-- words that differ in their second letter
letters : (one two : List ℕ) (m n : ℕ) → get_or one 1 0 ≡ m → get_or two 1 0 ≡ n → (m ≡ n → ⊥) → one ≡ two → ⊥
letters one two m n at_m at_n other same = other (sym at_m ∙ (ap (λ (text : List ℕ). get_or text 1 0) same ∙ at_n))

kind_once : (a b : Kind) → kind_word a ≡ kind_word b → a ≡ b
kind_once kind.Roots kind.Roots same = refl
kind_once kind.Roots kind.Line same = absurd (letters (codes "roots") (codes "line") 111 105 refl refl (λ e. omega (arith, e)) same)
kind_once kind.Roots kind.Tree same = absurd (letters (codes "roots") (codes "tree") 111 114 refl refl (λ e. omega (arith, e)) same)
kind_once kind.Roots kind.Page same = absurd (letters (codes "roots") (codes "page") 111 97 refl refl (λ e. omega (arith, e)) same)
kind_once kind.Roots kind.Records same = absurd (letters (codes "roots") (codes "records") 111 101 refl refl (λ e. omega (arith, e)) same)
kind_once kind.Line kind.Roots same = absurd (letters (codes "line") (codes "roots") 105 111 refl refl (λ e. omega (arith, e)) same)
kind_once kind.Line kind.Line same = refl
kind_once kind.Line kind.Tree same = absurd (letters (codes "line") (codes "tree") 105 114 refl refl (λ e. omega (arith, e)) same)
kind_once kind.Line kind.Page same = absurd (letters (codes "line") (codes "page") 105 97 refl refl (λ e. omega (arith, e)) same)
kind_once kind.Line kind.Records same = absurd (letters (codes "line") (codes "records") 105 101 refl refl (λ e. omega (arith, e)) same)
kind_once kind.Tree kind.Roots same = absurd (letters (codes "tree") (codes "roots") 114 111 refl refl (λ e. omega (arith, e)) same)
kind_once kind.Tree kind.Line same = absurd (letters (codes "tree") (codes "line") 114 105 refl refl (λ e. omega (arith, e)) same)
kind_once kind.Tree kind.Tree same = refl
kind_once kind.Tree kind.Page same = absurd (letters (codes "tree") (codes "page") 114 97 refl refl (λ e. omega (arith, e)) same)
kind_once kind.Tree kind.Records same = absurd (letters (codes "tree") (codes "records") 114 101 refl refl (λ e. omega (arith, e)) same)
kind_once kind.Page kind.Roots same = absurd (letters (codes "page") (codes "roots") 97 111 refl refl (λ e. omega (arith, e)) same)
kind_once kind.Page kind.Line same = absurd (letters (codes "page") (codes "line") 97 105 refl refl (λ e. omega (arith, e)) same)
kind_once kind.Page kind.Tree same = absurd (letters (codes "page") (codes "tree") 97 114 refl refl (λ e. omega (arith, e)) same)
kind_once kind.Page kind.Page same = refl
kind_once kind.Page kind.Records same = absurd (letters (codes "page") (codes "records") 97 101 refl refl (λ e. omega (arith, e)) same)
kind_once kind.Records kind.Roots same = absurd (letters (codes "records") (codes "roots") 101 111 refl refl (λ e. omega (arith, e)) same)
kind_once kind.Records kind.Line same = absurd (letters (codes "records") (codes "line") 101 105 refl refl (λ e. omega (arith, e)) same)
kind_once kind.Records kind.Tree same = absurd (letters (codes "records") (codes "tree") 101 114 refl refl (λ e. omega (arith, e)) same)
kind_once kind.Records kind.Page same = absurd (letters (codes "records") (codes "page") 101 97 refl refl (λ e. omega (arith, e)) same)
kind_once kind.Records kind.Records same = refl

-- ---- requests

pub says_by : (words : List (List ℕ)) (path : List ℕ) (request : Request) → words ≡ path ∷ spelled request → path ≢ [] → IsWithin request → Says words request
says_by words path request spelling named within = record { path = path; spelling = spelling; named = named; within = within }

-- what words of a path and more say
says_parts : (path word : List ℕ) (rest : List (List ℕ)) (request : Request) → Says (path ∷ word ∷ rest) request → (word ≡ kind_word (kind_of request)) × (rest ≡ behind request)
says_parts path word rest request says =
    let tail : word ∷ rest ≡ kind_word (kind_of request) ∷ behind request = cons_tail path says.path (word ∷ rest) (spelled request) says.spelling in
    (cons_head word (kind_word (kind_of request)) rest (behind request) tail, cons_tail word (kind_word (kind_of request)) rest (behind request) tail)

module _ (path : List ℕ) (named : path ≢ []) (k : Kind) where
  tail_into : (rest : List (List ℕ)) → Tail k rest → (request : Request) × Says (path ∷ kind_word k ∷ rest) request
  tail_into rest said =
      let parts = tail_parts k rest said in (
        parts.request,
        says_by (path ∷ kind_word k ∷ rest) path parts.request
            (ap (λ (q : Kind). path ∷ kind_word q ∷ rest) (sym parts.called) ∙ ap (λ (l : List (List ℕ)). path ∷ kind_word (kind_of parts.request) ∷ l) parts.spelling) named parts.within,
      )

  tail_out : (rest : List (List ℕ)) → (request : Request) × Says (path ∷ kind_word k ∷ rest) request → Tail k rest
  tail_out rest any =
      let parts = says_parts path (kind_word k) rest any.0 any.1 in
      let same : k ≡ kind_of any.0 = kind_once k (kind_of any.0) parts.0 in
      subst (λ (l : List (List ℕ)). Tail k l) (sym parts.1) (subst (λ (q : Kind). Tail q (behind any.0)) (sym same) (tail_said any.0 any.1.within))

  -- words are refused behind the one that names what is shown
  tail_refused : (rest : List (List ℕ)) (at : ℕ) → Refused (Tail k) rest at → Refused (λ words. (request : Request) × Says words request) (path ∷ kind_word k ∷ rest) (suc (suc at))
  tail_refused rest at r =
      behind_word (λ words. (request : Request) × Says (path ∷ words) request) (λ words. (request : Request) × Says words request) path (λ ws l. l) (λ ws m. m) (kind_word k ∷ rest) (suc at)
      (behind_word (Tail k) (λ words. (request : Request) × Says (path ∷ words) request) (kind_word k) tail_into tail_out rest at r)

refused_as : (words : List (List ℕ)) (at place : ℕ) → place ≡ at → Refused (λ ws. (request : Request) × Says ws request) words at → IsRefusedAt words place
refused_as words at place is r =
    subst (IsRefusedAt words) (sym is) (record {
      no_request = λ request says. r.none (request, says);
      within = r.within;
      good_before = r.front;
      bad_with_it = λ inside begins. r.stuck inside (subst (λ n. BeginsRequest (take n words)) (let e : at + 1 ≡ suc at = omega arith in e) begins);
    })

-- ---- by what the code reads of them

pub says_of : (k : Kind) (words : List (List ℕ)) → IsCalled k words → (request : Request) → kind_of request ≡ k → IsWithin request → drop 2 words ≡ behind request → Says words request
says_of k words called request same within rest =
    says_by words called.0 request
    (called.1.1 ∙ (ap (λ (q : Kind). called.0 ∷ kind_word q ∷ drop 2 words) (sym same) ∙ ap (λ (l : List (List ℕ)). called.0 ∷ kind_word (kind_of request) ∷ l) rest)) called.1.0 within

pub refused_of : (k : Kind) (words : List (List ℕ)) → IsCalled k words → (at place : ℕ) → place ≡ suc (suc at) → Refused (Tail k) (drop 2 words) at → IsRefusedAt words place
refused_of k words called at place is r =
    refused_as words (suc (suc at)) place is
    (subst (λ (ws : List (List ℕ)). Refused (λ words. (request : Request) × Says words request) ws (suc (suc at))) (sym called.1.1) (tail_refused called.0 called.1.0 k (drop 2 words) at r))

-- ---- one request

same_by : (one two : Request) → IsWithin one → IsWithin two → kind_of one ≡ kind_of two → behind one ≡ behind two → one ≡ two
same_by (Roots x) (Roots y) a b first more = ap Roots (roots_once x y a b more)
same_by (Roots x) (Line y) a b first more = absurd cc
same_by (Roots x) (Tree y) a b first more = absurd cc
same_by (Roots x) (Page y) a b first more = absurd cc
same_by (Roots x) (Records y) a b first more = absurd cc
same_by (Line x) (Roots y) a b first more = absurd cc
same_by (Line x) (Line y) a b first more = ap Line (line_once x y a b more)
same_by (Line x) (Tree y) a b first more = absurd cc
same_by (Line x) (Page y) a b first more = absurd cc
same_by (Line x) (Records y) a b first more = absurd cc
same_by (Tree x) (Roots y) a b first more = absurd cc
same_by (Tree x) (Line y) a b first more = absurd cc
same_by (Tree x) (Tree y) a b first more = ap Tree (tree_once x y a b more)
same_by (Tree x) (Page y) a b first more = absurd cc
same_by (Tree x) (Records y) a b first more = absurd cc
same_by (Page x) (Roots y) a b first more = absurd cc
same_by (Page x) (Line y) a b first more = absurd cc
same_by (Page x) (Tree y) a b first more = absurd cc
same_by (Page x) (Page y) a b first more = ap Page (page_once x y a b more)
same_by (Page x) (Records y) a b first more = absurd cc
same_by (Records x) (Roots y) a b first more = absurd cc
same_by (Records x) (Line y) a b first more = absurd cc
same_by (Records x) (Tree y) a b first more = absurd cc
same_by (Records x) (Page y) a b first more = absurd cc
same_by (Records x) (Records y) a b first more = ap Records (records_once x y more)

pub says_once : (words : List (List ℕ)) (one two : Request) → Says words one → Says words two → one ≡ two
says_once words one two a b =
    let both : spelled one ≡ spelled two = cons_tail a.path b.path (spelled one) (spelled two) (sym a.spelling ∙ b.spelling) in
    same_by one two a.within b.within (kind_once (kind_of one) (kind_of two) (cons_head (kind_word (kind_of one)) (kind_word (kind_of two)) (behind one) (behind two) both))
    (cons_tail (kind_word (kind_of one)) (kind_word (kind_of two)) (behind one) (behind two) both)

-- ---- the first two words

some_path : codes "p" ≢ []
some_path same = cc

begins_none : BeginsRequest []
begins_none = (codes "p" ∷ codes "records" ∷ [], (Records (record { json = false }), says_by _ (codes "p") (Records (record { json = false })) refl some_path tt))

begins_path : (path : List ℕ) → path ≢ [] → BeginsRequest (path ∷ [])
begins_path path named = (codes "records" ∷ [], (Records (record { json = false }), says_by _ path (Records (record { json = false })) refl named tt))

refused_none : IsRefusedAt [] 0
refused_none = record {
  no_request = λ request says. (let e = says.spelling in cc);
  within = omega arith;
  good_before = begins_none;
  bad_with_it = λ inside. absurd (omega (arith, inside));
}

refused_path : (rest : List (List ℕ)) → IsRefusedAt ([] ∷ rest) 0
refused_path rest = record {
  no_request = λ request says. says.named (sym (cons_head [] says.path rest _ says.spelling));
  within = omega arith;
  good_before = begins_none;
  bad_with_it = λ inside begins. (let says = begins.1.1 in says.named (sym (cons_head [] says.path begins.0 _ says.spelling)));
}

short_spelling : (request : Request) → [] ≡ spelled request → ⊥
short_spelling request same = not_cons (kind_word (kind_of request)) (behind request) same

refused_short : (path : List ℕ) → path ≢ [] → IsRefusedAt (path ∷ []) 1
refused_short path named = record {
  no_request = λ request says. short_spelling request (cons_tail path says.path [] (spelled request) says.spelling);
  within = omega arith;
  good_before = begins_path path named;
  bad_with_it = λ inside. absurd (omega (arith, inside));
}

refused_second : (path word : List ℕ) (rest : List (List ℕ)) → path ≢ [] → ((k : Kind) → word ≢ kind_word k) → IsRefusedAt (path ∷ word ∷ rest) 1
refused_second path word rest named other = record {
  no_request = λ request says. other (kind_of request) (says_parts path word rest request says).0;
  within = omega arith;
  good_before = begins_path path named;
  bad_with_it = λ inside begins. other (kind_of begins.1.0) (says_parts path word begins.0 begins.1.0 begins.1.1).0;
}

pub at_nothing : (words : List (List ℕ)) → length words ≡ 0 → IsRefusedAt words 0
at_nothing [] long = refused_none
at_nothing (a ∷ rest) long = absurd (omega (arith, long))

pub at_no_path : (words : List (List ℕ)) → 0 < length words → get_or words 0 [] ≡ [] → IsRefusedAt words 0
at_no_path [] long none = absurd (omega (arith, long))
at_no_path (a ∷ rest) long none = subst (λ (w : List ℕ). IsRefusedAt (w ∷ rest) 0) (sym none) (refused_path rest)

pub at_path_alone : (words : List (List ℕ)) → length words ≡ 1 → get_or words 0 [] ≢ [] → IsRefusedAt words 1
at_path_alone [] long named = absurd (omega (arith, long))
at_path_alone (a ∷ []) long named = refused_short a named
at_path_alone (a ∷ b ∷ rest) long named = absurd (omega (arith, long))

pub at_no_kind : (words : List (List ℕ)) → 1 < length words → get_or words 0 [] ≢ [] → ((k : Kind) → get_or words 1 [] ≢ kind_word k) → IsRefusedAt words 1
at_no_kind [] long named none = absurd (omega (arith, long))
at_no_kind (a ∷ []) long named none = absurd (omega (arith, long))
at_no_kind (a ∷ b ∷ rest) long named none = refused_second a b rest named none

pub is_called : (words : List (List ℕ)) (k : Kind) → 1 < length words → get_or words 0 [] ≢ [] → get_or words 1 [] ≡ kind_word k → IsCalled k words
is_called [] k long named is = absurd (omega (arith, long))
is_called (a ∷ []) k long named is = absurd (omega (arith, long))
is_called (a ∷ b ∷ rest) k long named is = (a, (named, ap (λ (w : List ℕ). a ∷ w ∷ rest) is))

-- ---- what is read of them is all that they say

pub each_by : (words : List (List ℕ)) (answer : Result Request WordsRefusal) → IfOk answer (Says words) → IfErr answer (λ r. IsRefusedAt words r.at)
    → (request : Request) → Says words request → answer ≡ Ok request
each_by words (Ok asked) says refused request said = ap (λ (q : Request). Ok q) (says_once words asked request says said)
each_by words (Err r) says refused request said = absurd (refused.no_request request said)
