-- What an analyst hears, one thing after another.
use Rattle.std.proofs.Common.{◌≡◌, ◌∙◌, ◌+◌, refl, subst, arith, List, [], ◌∷◌, ◌++◌}
use Rattle.dd_file.specs.Notices.{Notice, Hears, games_ended, games_in_all, games_over, left_game}

module _ {S : Type 0} (way : S → Notice → S → Type 0) where
  pub Hears-append : (s t u : S) (a b : List Notice) → Hears way s a t → Hears way t b u → Hears way s (a ++ b) u
  Hears-append s t u [] b first second = subst (λ (x : S). Hears way x b u) first second
  Hears-append s t u (notice ∷ a) b (between, step, first) second = (between, step, Hears-append between t u a b first second)

  pub Hears-one : (s t : S) (notice : Notice) → way s notice t → Hears way s (notice ∷ []) t
  Hears-one s t notice step = (t, step, refl)

  -- from a state that is the same
  pub Hears-from : (r s t : S) (notices : List Notice) → r ≡ s → Hears way r notices t → Hears way s notices t
  Hears-from r s t notices same hears = subst (λ (x : S). Hears way x notices t) same hears

-- of how many games it was told that they are over
pub games_over-append : (a b : List Notice) → games_over (a ++ b) ≡ games_over a + games_over b
games_over-append [] b = omega arith
games_over-append (left_game number board reason text ∷ a) b = games_over-append a b
games_over-append (games_ended games bytes ∷ a) b = (let more = games_over-append a b in omega (arith, more))
games_over-append (games_in_all games ∷ a) b = (let more = games_over-append a b in omega (arith, more))

-- who keeps to itself what it is told is as it was
pub Hears-silent : {S : Type 0} (s t : S) (notices : List Notice) → Hears (λ before _ after. after ≡ before) s notices t → t ≡ s
Hears-silent s t [] same = same
Hears-silent s t (notice ∷ notices) (between, step, hears) = Hears-silent between t notices hears ∙ step
