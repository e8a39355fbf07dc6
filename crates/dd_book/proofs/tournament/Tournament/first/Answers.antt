use Rattle.std.proofs.Common.{◌≡◌, ◌∙◌, ℕ, List, ap, subst, None}
use Rattle.std.specs.Prelude.{Option, MatchOption}
use Rattle.dd_book.specs.Tournaments.{IsFirstKey, key_at}
use Rattle.dd_book.proofs.Winning.{root-is}
use Rattle.dd_book.proofs.tournament.Tournament.first.Goals as goal

pub returns : goal.returns
returns c =
    subst (λ (keys : List (Option ℕ)). MatchOption c.winner.result ((place : ℕ) → key_at keys place ≡ None) (λ entry. IsFirstKey keys entry.0 entry.1)) c.self.view_is
    (root-is c.self.inside.keys.items c.self.inside.winners.items c.winner.result c.self.invariant (c.winner.ensures ∙ ap (λ (ws : List (Option (ℕ × ℕ))). key_at ws 0) c.deref.ensures.value))
