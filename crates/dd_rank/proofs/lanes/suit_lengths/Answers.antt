use Rattle.std.proofs.Common.{◌≡◌, ℕ, refl, arith, [], ◌∷◌}
use Rattle.dd_rank.proofs.Fields.{suits-wrapped}
use Rattle.dd_rank.proofs.lanes.suit_lengths.Goals as goal

four : (a b c d e f g h : ℕ) → a ≡ e → b ≡ f → c ≡ g → d ≡ h → a ∷ b ∷ c ∷ d ∷ [] ≡ e ∷ f ∷ g ∷ h ∷ []
four a b c d e f g h ea eb ec ed = rw (ea, eb, ec, ed) refl

pub returns : goal.returns
returns c =
    four _ _ _ _ _ _ _ _
    (suits-wrapped c.args.one (omega arith) _ _ _ refl refl refl) (suits-wrapped c.args.two (omega arith) _ _ _ refl refl refl)
    (suits-wrapped c.args.three (omega arith) _ _ _ refl refl refl) (suits-wrapped c.args.four (omega arith) _ _ _ refl refl refl)
