-- The bytes of characters decode to them.
use Rattle.std.proofs.Common.{◌≡◌, ℕ, suc, ◌+◌, ◌-◌, ◌*◌, ◌/◌, ◌<◌, ◌≤◌, true, ltb, leb, ◌⊎◌, List, [], ◌∷◌, ◌++◌, Some, sym, ap, ◌∙◌, subst, inl, inr, append_assoc, arith}
use lib.Utf8.{encode, next}
use Rattle.std.specs.List.{AllByRecursion as All}
use Rattle.std.proofs.lemmas.Bool.{cond-true, cond-false, cond_both, lt-ltb, le-ltb, le-leb, lt-leb, ltb-true, ltb-false, and_from, and_right}
use Rattle.std.proofs.lemmas.Bool.Decides.{nat_tests}
use Rattle.evaluator.specs.Options.{and_then}
use Rattle.evaluator.specs.Characters.{Decoding, between, within, is_scalar, gives, decode_step, decode_then, decode}

-- the bytes are those of the characters, whatever follows
abbrev pub Encodes : List ℕ → List ℕ → Type 0
Encodes bs cs = (rest ds : List ℕ) → decode rest between ≡ Some ds → decode (bs ++ rest) between ≡ Some (cs ++ ds)

pub encodes_none : Encodes [] []
encodes_none rest ds h = h

pub encodes_both : (as' bs cs ds : List ℕ) → Encodes as' cs → Encodes bs ds → Encodes (as' ++ bs) (cs ++ ds)
encodes_both as' bs cs ds f g rest es h =
    ap (λ z. decode z between) (append_assoc as' bs rest) ∙ f (bs ++ rest) (ds ++ es) (g rest es h) ∙ ap Some (sym (append_assoc cs ds es))

-- one byte more, if it is known what it makes
step : (b : ℕ) (d d' : Decoding) (cs rest ds : List ℕ) → decode_step b d ≡ gives cs d' → decode rest d' ≡ Some ds → decode (b ∷ rest) d ≡ Some (cs ++ ds)
step b d d' cs rest ds e h = ap (λ z. decode_then z (decode rest)) e ∙ ap (λ z. and_then z (λ es. Some (cs ++ es))) h

-- a character below 128 is its byte
pub encodes_low : (c : ℕ) → c < 128 → Encodes (c ∷ []) (c ∷ [])
encodes_low c l rest ds h = step c between between (c ∷ []) rest ds (cond-true (ltb c 128) _ _ (lt-ltb c 128 l)) h

-- and so is a list of such
pub encodes_ascii : (cs : List ℕ) → All (λ c. c < 128) cs → Encodes cs cs
encodes_ascii [] l rest ds h = h
encodes_ascii (c ∷ cs) l rest ds h = encodes_low c l.0 (cs ++ rest) (cs ++ ds) (encodes_ascii cs l.1 rest ds h)

-- the last byte of a character
last : (b c least : ℕ) (rest ds : List ℕ) → 128 ≤ b → b ≤ 191 → is_scalar least (c * 64 + (b - 128)) ≡ true → decode rest between ≡ Some ds →
    decode (b ∷ rest) (within 0 c least) ≡ Some ((c * 64 + (b - 128)) ∷ ds)
last b c least rest ds l m s h =
    step b (within 0 c least) between ((c * 64 + (b - 128)) ∷ []) rest ds (cond-true _ _ _ (and_from _ _ (le-leb 128 b l) (and_from _ _ (le-leb b 191 m) s))) h

-- a byte between
more : (b n c least : ℕ) (rest ds : List ℕ) → 128 ≤ b → b ≤ 191 → decode rest (within n (c * 64 + (b - 128)) least) ≡ Some ds → decode (b ∷ rest) (within (suc n) c least) ≡ Some ds
more b n c least rest ds l m h = step b (within (suc n) c least) (within n (c * 64 + (b - 128)) least) [] rest ds (cond-true _ _ _ (and_from _ _ (le-leb 128 b l) (le-leb b 191 m))) h

-- a character
scalar : (least c : ℕ) → least ≤ c → c < 1114112 → (c < 55296) ⊎ (57344 ≤ c) → is_scalar least c ≡ true
scalar least c l m n = grind (arith, nat_tests)

-- the first byte of two, of three, of four
of_two : (b : ℕ) → 194 ≤ b → b ≤ 223 → decode_step b between ≡ gives [] (within 0 (b - 192) 128)
of_two b l m = cond-false _ _ _ (le-ltb b 128 (omega arith)) ∙ cond-true _ _ _ (and_from _ _ (le-leb 194 b l) (le-leb b 223 m))

of_three : (b : ℕ) → 224 ≤ b → b ≤ 239 → decode_step b between ≡ gives [] (within 1 (b - 224) 2048)
of_three b l m =
    cond-false _ _ _ (le-ltb b 128 (omega arith)) ∙ cond-false _ _ _ (and_right (leb 194 b) _ (lt-leb b 223 (omega arith)))
    ∙ cond-true _ _ _ (and_from _ _ (le-leb 224 b l) (le-leb b 239 m))

of_four : (b : ℕ) → 240 ≤ b → b ≤ 244 → decode_step b between ≡ gives [] (within 2 (b - 240) 65536)
of_four b l m =
    cond-false _ _ _ (le-ltb b 128 (omega arith)) ∙ cond-false _ _ _ (and_right (leb 194 b) _ (lt-leb b 223 (omega arith)))
    ∙ cond-false _ _ _ (and_right (leb 224 b) _ (lt-leb b 239 (omega arith))) ∙ cond-true _ _ _ (and_from _ _ (le-leb 240 b l) (le-leb b 244 m))

-- the last byte, where it is known what the character is
ends : (b n c least : ℕ) (rest ds : List ℕ) → n * 64 + (b - 128) ≡ c → 128 ≤ b → b ≤ 191 → is_scalar least c ≡ true → decode rest between ≡ Some ds →
    decode (b ∷ rest) (within 0 n least) ≡ Some (c ∷ ds)
ends b n c least rest ds e l m s h =
    subst (λ z. decode (b ∷ rest) (within 0 n least) ≡ Some (z ∷ ds)) e (last b n least rest ds l m (subst (λ z. is_scalar least z ≡ true) (sym e) s) h)

two : (c : ℕ) → 128 ≤ c → c < 2048 → Encodes ((192 + c / 64) ∷ next c ∷ []) (c ∷ [])
two c l m rest ds h =
    let b = 192 + c / 64 in
    step b between (within 0 (b - 192) 128) [] (next c ∷ rest) (c ∷ ds) (of_two b (omega arith) (omega arith))
    (ends (next c) (b - 192) c 128 rest ds (omega arith) (omega arith) (omega arith) (scalar 128 c l (omega arith) (inl (omega arith))) h)

three : (c : ℕ) → 2048 ≤ c → c < 65536 → (c < 55296) ⊎ (57344 ≤ c) → Encodes ((224 + c / 4096) ∷ next (c / 64) ∷ next c ∷ []) (c ∷ [])
three c l m s rest ds h =
    let b = 224 + c / 4096 in
    let d = next (c / 64) in
    step b between (within 1 (b - 224) 2048) [] (d ∷ next c ∷ rest) (c ∷ ds) (of_three b (omega arith) (omega arith))
    (more d 0 (b - 224) 2048 (next c ∷ rest) (c ∷ ds) (omega arith) (omega arith)
    (ends (next c) ((b - 224) * 64 + (d - 128)) c 2048 rest ds (omega arith) (omega arith) (omega arith) (scalar 2048 c l (omega arith) s) h))

four : (c : ℕ) → 65536 ≤ c → c < 1114112 → Encodes ((240 + c / 262144) ∷ next (c / 4096) ∷ next (c / 64) ∷ next c ∷ []) (c ∷ [])
four c l m rest ds h =
    let b = 240 + c / 262144 in
    let d = next (c / 4096) in
    let e = next (c / 64) in
    let high : (b - 240) * 64 + (d - 128) ≡ c / 4096 = omega arith in
    let low : c / 4096 * 64 + (e - 128) ≡ c / 64 = omega arith in
    step b between (within 2 (b - 240) 65536) [] (d ∷ e ∷ next c ∷ rest) (c ∷ ds) (of_four b (omega arith) (omega arith))
    (more d 1 (b - 240) 65536 (e ∷ next c ∷ rest) (c ∷ ds) (omega arith) (omega arith)
    (more e 0 ((b - 240) * 64 + (d - 128)) 65536 (next c ∷ rest) (c ∷ ds) (omega arith) (omega arith)
    (ends (next c) (((b - 240) * 64 + (d - 128)) * 64 + (e - 128)) c 65536 rest ds (omega arith) (omega arith) (omega arith) (scalar 65536 c l m (inr (omega arith))) h)))

-- every character, but no surrogate, is decoded from its bytes
pub encodes_character : (c : ℕ) → c < 1114112 → (c < 55296) ⊎ (57344 ≤ c) → Encodes (encode c) (c ∷ [])
unfolding encode
encodes_character c m s =
    cond_both (ltb c 128) _ _ (λ z. Encodes z (c ∷ [])) (λ e. encodes_low c (ltb-true c 128 e))
    (λ e. cond_both (ltb c 2048) _ _ (λ z. Encodes z (c ∷ [])) (λ f. two c (ltb-false c 128 e) (ltb-true c 2048 f))
    (λ f. cond_both (ltb c 65536) _ _ (λ z. Encodes z (c ∷ [])) (λ g. three c (ltb-false c 2048 f) (ltb-true c 65536 g) s)
    (λ g. four c (ltb-false c 65536 g) m)))
