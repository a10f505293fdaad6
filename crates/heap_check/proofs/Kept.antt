-- What is checked is what an accepted dump means, and well formed.
use Rattle.std.proofs.Common.{◌≡◌, ℕ, true, List, is_ok, Ok, Err, Result, sym, refl, ap, ◌∙◌, arith}
use Rattle.dump.specs.declared.refusal.Refusal.{Refusal}
use Rattle.dump.specs.Heaps.{Heap as Meant}
use Rattle.rules.specs.Verdicts.{verdict}
use Rattle.formed.specs.Formed.{Formed}
use Rattle.formed.proofs.Heaps as heaps
use Rattle.formed.proofs.Verdict as verdicts
use Rattle.heap_check.specs.declared.checked.Checked.{Checked}
use Rattle.heap_check.specs.declared.heap.Heap.{Heap}
use Rattle.heap_check.specs.Heaps.{model, Answers}
use Rattle.heap_check.specs.Exact.{Exactly}

pub accepted : (h : Checked) → verdict h.raw.dump.now ≡ Ok (model h)
accepted h =
    let b = h.raw.dump.now in
    let l = h.raw.layout in
    (verdicts.every b (model h)).1 (l, h.laid, verdicts.sound b l h.sound, refl)

pub formed : (h : Checked) → Formed (model h)
formed h = heaps.every h.raw.dump.now (model h) h.bytes (accepted h)

-- what `check` tells, in the words of the rules
pub exactly : (b : List ℕ) (r : Result (Unit {0}) Refusal) (h h' : Heap) → Answers (verdict b) r h h' → Exactly b r h'
exactly b r h h' told = go (verdict b) refl told
  where
    go : (v : Result Meant Refusal) → verdict b ≡ v → Answers v r h h' → Exactly b r h'
    go (Ok m) e a = (
      λ _. (verdicts.every b (model h'.checked)).0 (e ∙ ap Ok (sym a.1)),
      λ n means. (ap is_ok a.0, a.1 ∙ (let x : Ok m ≡ Ok n = sym e ∙ (verdicts.every b n).1 means in let y : m ≡ n = cc in y)),
    )
    go (Err x) e a = (
      λ ok. absurd (let y : is_ok {T = Unit {0}} (Err x) ≡ true = sym (ap is_ok a.0) ∙ ok in let z : ◌≡◌ {A = ℕ} 0 1 = cc in omega arith),
      λ n means. absurd (let y : Err x ≡ Ok n = sym e ∙ (verdicts.every b n).1 means in let z : ◌≡◌ {A = ℕ} 0 1 = cc in omega arith),
    )
