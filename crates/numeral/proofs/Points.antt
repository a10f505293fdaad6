-- Texts before and behind the first point.
use Rattle.std.proofs.Common.{◌≡◌, ℕ, suc, ◌+◌, ◌-◌, true, false, not, eqb, ltb, cond, List, [], ◌∷◌, length, take, drop, map, Some, None, position, sym, refl, ap, ◌∙◌, arith}
use Rattle.std.specs.List.{position_or_len, before_first, after_first}
use Rattle.std.proofs.lemmas.Bool.{lt-ltb, ltb-false}
use Rattle.std.proofs.lemmas.Bool.Decides.{nat_tests}
use Rattle.std.proofs.lemmas.List.{take_all, take-map, drop-map, length-drop}
use Rattle.std.specs.Option.{option_map, option_map_or}
use Rattle.dump.specs.Bytes.{little}
use Rattle.numeral.specs.Numerals.{before_point, after_point}

front : (t : List ℕ) → before_point t ≡ before_first (λ c. eqb c 46) t
front [] = refl
front (c ∷ cs) =
    let n = position_or_len (λ c. eqb c 46) cs in
    let e : 1 + n ≡ suc n = omega arith in
    elim (eqb c 46) as (λ b. cond b [] (c ∷ before_point cs) ≡ take (cond (not b) (1 + n) 0) (c ∷ cs))
    [ true ↦ refl | false ↦ rw e (ap (λ t. c ∷ t) (front cs)) ]

behind : (t : List ℕ) → after_point t ≡ cond (ltb (position_or_len (λ c. eqb c 46) t) (length t)) (Some (after_first (λ c. eqb c 46) t)) None
behind [] = refl
behind (c ∷ cs) =
    let n = position_or_len (λ c. eqb c 46) cs in
    let e : ltb (1 + n) (suc (length cs)) ≡ ltb n (length cs) = grind (arith, nat_tests) in
    let f : 1 + n + 1 ≡ suc (n + 1) = omega arith in
    elim (eqb c 46) as (λ b. cond b (Some cs) (after_point cs) ≡ (let k : ℕ = cond (not b) (1 + n) 0 in cond (ltb k (suc (length cs))) (Some (drop (k + 1) (c ∷ cs))) None))
    [ true ↦ rw (lt-ltb 0 (suc (length cs)) (omega arith)) refl | false ↦ rw (e, f) (behind cs) ]

module _ (ps : List (List ℕ)) where
  abbrev n : ℕ
  n = position_or_len (λ c. eqb c 46) (map little ps)

  -- by the place of the first point
  pub before_point_at : before_point (map little ps) ≡ option_map_or (λ k. map little (take k ps)) (position (λ c. eqb c 46) (map little ps)) (map little ps)
  before_point_at =
      elim (ltb n (length (map little ps))) as (λ t. ltb n (length (map little ps)) ≡ t → before_point (map little ps) ≡ option_map_or (λ k. map little (take k ps)) (cond t (Some n) None) (map little ps))
      [ true ↦ λ h. front (map little ps) ∙ take-map little n ps | false ↦ λ h. front (map little ps) ∙ take_all n (map little ps) (ltb-false n (length (map little ps)) h) ] refl

  pub after_point_at : after_point (map little ps) ≡ option_map (λ k. map little (take (length ps - (k + 1)) (drop (k + 1) ps))) (position (λ c. eqb c 46) (map little ps))
  after_point_at =
      let cut = take_all (length ps - (n + 1)) (drop (n + 1) ps) (omega (arith, length-drop (n + 1) ps)) in
      behind (map little ps) ∙ elim (ltb n (length (map little ps))) as (λ t. cond t (Some (drop (n + 1) (map little ps))) None ≡ option_map (λ k. map little (take (length ps - (k + 1)) (drop (k + 1) ps))) (cond t (Some n) None))
      [ true ↦ ap Some (drop-map little (n + 1) ps ∙ sym (ap (map little) cut)) | false ↦ refl ]
