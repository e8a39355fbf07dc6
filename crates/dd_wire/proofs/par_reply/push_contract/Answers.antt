use Rattle.std.proofs.Common.{◌≡◌, ℕ, List, ◌++◌, ◌∙◌, ap, append_assoc}
use Rattle.std.specs.Prelude.{codes, decimal}
use Rattle.dd_cards.specs.Strains.{strain_code}
use Rattle.dd_wire.specs.ParReplies.{declarers_text}
use Rattle.dd_wire.proofs.par_reply.push_contract.Goals as goal

-- nine texts, each behind those before it
joined : (old a b c d e f g h i t1 t2 t3 t4 t5 t6 t7 t8 t9 : List ℕ)
    → t1 ≡ old ++ a → t2 ≡ t1 ++ b → t3 ≡ t2 ++ c → t4 ≡ t3 ++ d → t5 ≡ t4 ++ e → t6 ≡ t5 ++ f → t7 ≡ t6 ++ g → t8 ≡ t7 ++ h → t9 ≡ t8 ++ i
    → t9 ≡ old ++ ((((((((a ++ b) ++ c) ++ d) ++ e) ++ f) ++ g) ++ h) ++ i)
joined old a b c d e f g h i t1 t2 t3 t4 t5 t6 t7 t8 t9 e1 e2 e3 e4 e5 e6 e7 e8 e9 =
    rw (e9, e8, e7, e6, e5, e4, e3, e2, e1) (simp append_assoc)

pub returns-clause-bytes : goal.returns-clause-bytes
returns-clause-bytes c =
    let k = c.args.contract.now in
    joined c.args.text.now.bytes (codes "{\"declarers\":") (declarers_text k.declarers) (codes ",\"level\":") (decimal k.level) (codes ",\"tricks\":") (decimal k.tricks)
    (codes ",\"trump\":") (decimal (strain_code k.strain)) (codes "}")
    c.push_str.new.self.bytes c.push_declarers.new.text.bytes c.push_str-2.new.self.bytes c.push_number.new.text.bytes c.push_str-3.new.self.bytes
    c.push_number-2.new.text.bytes c.push_str-4.new.self.bytes c.push_number-3.new.text.bytes c.push_str-5.new.self.bytes
    c.push_str.ensures.bytes c.push_declarers.ensures.bytes c.push_str-2.ensures.bytes c.push_number.ensures.bytes c.push_str-3.ensures.bytes
    c.push_number-2.ensures.bytes c.push_str-4.ensures.bytes
    (c.push_number-3.ensures.bytes ∙ ap (λ (n : ℕ). c.push_str-4.new.self.bytes ++ decimal n) c.code.ensures.value) c.push_str-5.ensures.bytes
