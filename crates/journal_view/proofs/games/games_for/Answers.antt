use Rattle.std.proofs.Common.{◌≡◌, ◌∙◌, refl, sym}
use Rattle.journal_view.proofs.GameLemmas.{games_asked, games_refused, no_games_asked}
use Rattle.journal_view.proofs.games.games_for.Goals as goal

pub returns-in-Some : goal.returns-in-Some
returns-in-Some g c =
    let source = g.S.Source.left c.args.source.now in
    let is = sym c.in-Some.is ∙ c.played.ensures in
    record {
      games = games_asked c.args.request source c.in-Some.plies c.read_opened.result is c.read_opened.ensures.opened;
      refused = games_refused c.args.request source (g.S.Source.left c.read_opened.new.source) (g.S.Source.faults c.args.source.now) (g.S.Source.faults c.read_opened.new.source) c.in-Some.plies c.read_opened.result is
          c.read_opened.ensures.refused;
      unread = λ none. absurd (let e = is ∙ none in cc);
    }

pub returns-in-None : goal.returns-in-None
returns-in-None g c =
    record {
      games = no_games_asked c.args.request (g.S.Source.left c.args.source.now) c.none.result (sym c.in-None.is ∙ c.played.ensures);
      refused = tt;
      unread = λ none. refl;
    }
