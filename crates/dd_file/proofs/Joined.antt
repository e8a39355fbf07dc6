-- Texts that were put one behind the other.
use Rattle.std.proofs.Common.{◌≡◌, ◌∙◌, ℕ, List, ◌++◌, ap, append_assoc}

-- a line of one part between its line ends
pub joined3 : (o b t a o1 o2 o3 : List ℕ) → o1 ≡ o ++ b → o2 ≡ o1 ++ t → o3 ≡ o2 ++ a → o3 ≡ o ++ ((b ++ t) ++ a)
joined3 o b t a o1 o2 o3 e1 e2 e3 = e3 ∙ ap (λ l. l ++ a) (e2 ∙ ap (λ l. l ++ t) e1 ∙ append_assoc o b t) ∙ append_assoc o (b ++ t) a

-- three parts
joined-parts : (o t s e o1 o2 o3 : List ℕ) → o1 ≡ o ++ t → o2 ≡ o1 ++ s → o3 ≡ o2 ++ e → o3 ≡ o ++ ((t ++ s) ++ e)
joined-parts o t s e o1 o2 o3 e1 e2 e3 = joined3 o t s e o1 o2 o3 e1 e2 e3

-- a line of three parts between its line ends
pub joined5 : (o b t s e a o1 o2 o3 o4 o5 : List ℕ) → o1 ≡ o ++ b → o2 ≡ o1 ++ t → o3 ≡ o2 ++ s → o4 ≡ o3 ++ e → o5 ≡ o4 ++ a
    → o5 ≡ o ++ ((b ++ ((t ++ s) ++ e)) ++ a)
joined5 o b t s e a o1 o2 o3 o4 o5 e1 e2 e3 e4 e5 = joined3 o b ((t ++ s) ++ e) a o1 o4 o5 e1 (joined-parts o1 t s e o2 o3 o4 e2 e3 e4) e5
