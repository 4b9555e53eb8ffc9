-- From the games of a source to those of a request.
use Rattle.std.proofs.Common.{◌≡◌, ℕ, List, Option, Some, None, subst}
use Rattle.std.specs.Prelude.{IfErr, IfOk, IfSome, IsSomeAnd, Result, Ok, Err}
use Rattle.opened_games.specs.Opened.{Opened}
use Rattle.opening_report.specs.declared.refusals.Refusal.{Refusal}
use Rattle.journal_view.specs.Games.{HasGames, HasNoGames, IsRefusedSource, OpensSource, played}
use Rattle.view_words.specs.declared.requests.Request.{Request}

module _ (request : Request) (source : Option (List ℕ)) where
  pub games_asked : (plies : ℕ) (answer : Result Opened Refusal) → Some plies ≡ played request → IfOk answer (OpensSource plies source) → IfOk answer (HasGames request source)
  games_asked plies (Ok opened) is opens = subst (λ (o : Option ℕ). IfSome o (λ n. OpensSource n source opened)) is opens
  games_asked plies (Err r) is opens = tt

  pub no_games_asked : (opened : Opened) → None ≡ played request → HasGames request source opened
  no_games_asked opened is = subst (λ (o : Option ℕ). IfSome o (λ n. OpensSource n source opened)) is tt

  pub games_refused : (rest : Option (List ℕ)) (before after plies : ℕ) (answer : Result Opened Refusal) → Some plies ≡ played request → IfErr answer (IsRefusedSource plies source rest before after)
      → IfErr answer (HasNoGames request source rest before after)
  games_refused rest before after plies (Ok opened) is refused = tt
  games_refused rest before after plies (Err r) is refused = subst (λ (o : Option ℕ). IsSomeAnd o (λ n. IsRefusedSource n source rest before after r)) is refused
