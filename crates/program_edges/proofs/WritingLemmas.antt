-- What is written, of an output and of a refusal.
use Rattle.std.proofs.Common.{◌≡◌, ℕ, ◌<◌, inl, inr, List, Option, sym, subst, arith, length, take, drop, length-drop}
use Rattle.std.specs.Prelude.{Result, Ok, Err, OnOk, OnErr}
use Rattle.std.specs.Io.KnownBytes.{Appends}
use Rattle.std.proofs.lemmas.List.{take-append-drop}
use Rattle.bench_edges.specs.Faults.{CountsFaults}
use Rattle.bench_edges.specs.KnownBytes.{AppendsFront}
use Rattle.program_edges.specs.Answers.{TakesFront, TakesLine}

-- a front of a text, where it is shorter
pub front_taken : (text : List ℕ) (before after : Option (List ℕ)) → AppendsFront before after text → TakesFront before after text
front_taken text before after h =
    let count : ℕ = h.0 in
    let short : count < length text = h.1 in
    let left : 0 < length (drop count text) = (let e = length-drop count text in omega (arith, e, short)) in
    (take count text, (drop count text, (sym (take-append-drop count text), (left, h.2))))

pub line_taken : {T E : Type 0} (line bytes : List ℕ) (result : Result T E) (before after : Option (List ℕ)) (faults_before faults_after : ℕ) → bytes ≡ line
    → OnOk result (Appends before after bytes) → OnErr result (AppendsFront before after bytes) → CountsFaults faults_before faults_after result
    → TakesLine line before after faults_before faults_after
line_taken line bytes (Ok x) before after fb fa is whole front counts = inl (subst (Appends before after) is whole)
line_taken line bytes (Err e) before after fb fa is whole front counts = inr (counts.cause.fault, subst (TakesFront before after) is (front_taken bytes before after front))
