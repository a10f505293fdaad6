-- Rows judged in turn give the verdict over all rows.
use Rattle.std.proofs.Common.{◌≡◌, ℕ, zero, suc, ◌<◌, Ok, Err, refl, sym, arith}
use Rattle.dump.specs.Rules.{Verdict, each}
use Rattle.dump.proofs.Rules.{each_stop}
use Rattle.rules.specs.Judging.{Judged}

all_passed : (f : ℕ → Verdict) (n : ℕ) → ((i : ℕ) → i < n → Ok tt ≡ f i) → each f n ≡ Ok tt
all_passed f zero h = refl
all_passed f (suc n) h = rw (all_passed f n (λ i l. h i (omega arith))) (sym (h n (omega arith)))

pub each_judged : {post : ℕ → Verdict → Type 0} (f : ℕ → Verdict) (n : ℕ) (r : Verdict) → Judged post n r → ((i : ℕ) (v : Verdict) → post i v → v ≡ f i) → r ≡ each f n
each_judged f n (Ok tt) h is = sym (all_passed f n (λ i l. is i (Ok tt) (h.cases i l)))
each_judged f n (Err e) h is = sym (each_stop f h.cases.0 n e (all_passed f h.cases.0 (λ k l. is k (Ok tt) (h.cases.3 k l))) (sym (is h.cases.0 (Err e) h.cases.2)) h.cases.1)
