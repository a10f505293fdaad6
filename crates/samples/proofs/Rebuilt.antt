-- Each sample's script rebuilds its heap: by computing, with the pairing written out.
use Rattle.std.proofs.Common.{[], ◌∷◌, Some, None, refl}
use lib.Ieee as Ieee
use Rattle.std.specs.Fmt.{digits}
use Rattle.samples.specs.Scripts.{ScriptsRebuild}

pub rebuilt : ScriptsRebuild
unfolding Ieee.eq Ieee.of_int Ieee.of_bits Ieee.of_fields Ieee.to_bits Ieee.to_unsigned Ieee.is_nan Ieee.round Ieee.units Ieee.odd Ieee.size Ieee.climb Ieee.span digits
rebuilt = (
  record { ran = _; value = _; runs = refl; result = refl; same = record { own = []; once = refl; alike = tt; root = (_, refl, refl) } },
  (
    record { ran = _; value = _; runs = refl; result = refl; same = record { own = Some 0 ∷ []; once = refl; alike = ((refl, refl), tt); root = (0, refl, refl) } },
    (
      record { ran = _; value = _; runs = refl; result = refl; same = record { own = Some 0 ∷ []; once = refl; alike = ((refl, refl), tt); root = (0, refl, refl) } },
      (
        record { ran = _; value = _; runs = refl; result = refl; same = record { own = Some 0 ∷ []; once = refl; alike = ((refl, (_, _, refl, (0, refl, refl), refl)), tt); root = (0, refl, refl) } },
        (
          record { ran = _; value = _; runs = refl; result = refl; same = record { own = Some 1 ∷ Some 0 ∷ []; once = refl; alike = ((refl, refl), ((refl, (_, _, refl, (0, refl, refl), (_, _, refl, (0, refl, refl), refl))), tt)); root = (1, refl, refl) } },
          (
            record { ran = _; value = _; runs = refl; result = refl; same = record { own = None ∷ Some 0 ∷ []; once = refl; alike = ((refl, (_, _, _, refl, (_, refl, refl), (1, refl, refl), (_, _, _, refl, (_, refl, refl), (_, refl, refl), refl))), tt); root = (1, refl, refl) } },
            (
              record { ran = _; value = _; runs = refl; result = refl; same = record { own = Some 0 ∷ []; once = refl; alike = ((refl, (_, _, refl, (_, refl, refl), refl)), tt); root = (0, refl, refl) } },
              (
                record { ran = _; value = _; runs = refl; result = refl; same = record { own = []; once = refl; alike = tt; root = refl } },
                tt,
              ),
            ),
          ),
        ),
      ),
    ),
  ),
)
