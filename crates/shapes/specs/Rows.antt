-- What must hold of an object's words, each rule under the number of its refusal.
use Rattle.std.specs.Prelude.{ℕ, ◌+◌, ◌*◌, ◌/◌, ◌%◌, Bool, true, false, cond, not, ◌&&◌, ◌||◌, ◌==◌, nat_le, nat_lt}
use Rattle.dump.specs.declared.row.Row.{Row}
use Rattle.dump.specs.Kinds.{view_kind, width}
use Rattle.dump.specs.Meaning.{joined}

abbrev is0 : ℕ → Bool
is0 n = n == 0

-- 4: a known kind, zero in each word that it does not use, and the others in range
abbrev pub words_ok : Row → Bool
words_ok r =
    cond (r.kind == 0) (nat_le r.a 1 && (is0 r.b && (is0 r.c && (is0 r.d && is0 r.e))))
    (cond (r.kind == 1) (is0 r.c && (is0 r.d && is0 r.e))
    (cond (r.kind == 2) (is0 r.b && (is0 r.c && (is0 r.d && is0 r.e)))
    (cond (r.kind == 3) (is0 r.b && (is0 r.c && (is0 r.d && is0 r.e)))
    (cond (r.kind == 4) (is0 r.c && (is0 r.d && is0 r.e))
    (cond (r.kind == 5) (is0 r.d && (is0 r.e && (nat_le r.c 1 && (is0 r.c || (is0 r.a && is0 r.b)))))
    (cond (r.kind == 6) (is0 r.c && (is0 r.d && is0 r.e))
    (cond (r.kind == 7) (is0 r.d && is0 r.e)
    (cond (r.kind == 8) (is0 r.e)
    (cond (r.kind == 9) (is0 r.c && (is0 r.d && is0 r.e))
    (cond (r.kind == 10) (is0 r.c && (is0 r.d && is0 r.e))
    (cond (r.kind == 11) (is0 r.e && (nat_le r.c 1 && (r.c == 1 || is0 r.d)))
    (cond (r.kind == 12) (nat_le r.b 11 && nat_le r.e 3)
    (cond (r.kind == 13) (nat_le r.a 6 && nat_le r.e 1)
    false)))))))))))))

-- 5: texts and objects that there are
abbrev pub numbers_ok : ℕ → ℕ → Row → Bool
numbers_ok texts objects r =
    cond (r.kind == 2 || (r.kind == 3 || r.kind == 4)) (nat_lt r.a texts)
    (cond (r.kind == 12) (nat_lt r.a objects)
    (cond (r.kind == 13) (nat_le r.b texts && nat_le r.c texts)
    true))

-- the kinds with one run of parts in the words a and b
abbrev pub one_run : ℕ → Bool
one_run k = k == 6 || (k == 7 || (k == 9 || k == 10))

-- how many parts and bytes a row has
abbrev pub parts_in : Row → ℕ
parts_in r = cond (one_run r.kind) r.b (cond (r.kind == 8) (r.b + r.d) (cond (r.kind == 13) r.e 0))

abbrev pub bytes_in : Row → ℕ
bytes_in r = cond (r.kind == 11) r.b 0

-- 5: runs of parts begin where the last ended, empty ones too, and lie in the section
abbrev pub runs_ok : Row → ℕ → ℕ → Bool
runs_ok r begin total =
    cond (one_run r.kind) (r.a == begin && nat_le (begin + r.b) total)
    (cond (r.kind == 8) (r.a == begin && (r.c == begin + r.b && nat_le (begin + r.b + r.d) total))
    (cond (r.kind == 13) (r.d == begin && nat_le (begin + r.e) total)
    true))

-- 5: and so does a buffer's run of bytes
abbrev pub bytes_ok : Row → ℕ → ℕ → Bool
bytes_ok r begin total = cond (r.kind == 11) (r.a == begin && nat_le (begin + r.b) total) true

-- bit k of n, for the k-th power of two
abbrev pub bit : ℕ → ℕ → Bool
bit n power = n / power % 2 == 1

-- bits 0 to 8 without 6 (linear), and not both 4 (unicode) and 8 (unicode sets)
abbrev pub flags_ok : ℕ → Bool
flags_ok n = nat_lt n 512 && (not (bit n 64) && not (bit n 16 && bit n 256))

-- a time of 64 bits in two's complement lies within 8,640,000,000,000,000 milliseconds of 0
abbrev pub time_ok : ℕ → Bool
time_ok n = nat_le n 8640000000000000 || nat_le 18438104073709551616 n

-- 9: flags and times
abbrev pub limits_ok : Row → Bool
limits_ok r =
    cond (r.kind == 4) (flags_ok r.b)
    (cond (r.kind == 5) (time_ok (joined r.a r.b))
    true)

abbrev pub tracking : Row → Bool
tracking r = r.e % 2 == 1

-- A view on the row `on`: a buffer, offset and buffer in whole elements, the view inside the buffer;
-- bit 1 exactly if the buffer is resizable, and bit 0 only then.
abbrev pub view_ok : Row → Row → ℕ → Bool
view_ok r on w =
    (on.kind == 11)
    && (r.c % w == 0
    && (on.b % w == 0
    && (nat_le (r.c + cond (tracking r) 0 (r.d * w)) on.b
    && cond (on.c == 1) (nat_le 2 r.e) (r.e == 0))))

-- 10: a resizable buffer is no longer than its maximum; views
abbrev pub buffers_ok : Row → Row → Bool
buffers_ok r on =
    cond (r.kind == 11) (cond (r.c == 1) (nat_le r.b r.d) true)
    (cond (r.kind == 12) (view_ok r on (width (view_kind r.b)))
    true)
