-- The tried values hold: each side computes to the other.
use mathlib.Core.Path.{refl}
use Rattle.machine.specs.TriedValues.{I, A, R, memory_with, kernel_desk, ran_on, after_pushr, after_popr, TriedValues}
use Rattle.machine.proofs.WholeStep.{whole_step}

pub tried_values : TriedValues
unfolding whole_step I A R memory_with kernel_desk ran_on after_pushr after_popr
tried_values = record {
  code = refl;
  star1 = refl;
  star2 = refl;
  star3 = (refl, refl);
  star4 = (refl, refl);
  star5 = refl;
  star6 = (refl, refl);
  star7 = refl;
  star8 = refl;
  star9 = refl;
  star10 = refl;
  star11 = (refl, refl, refl);
  lengths = (refl, refl, refl);
}
