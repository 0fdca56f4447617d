-- The memory length of `trace`: "the least allowed length that covers them".
use Rattle.std.specs.Prelude.{ℕ, ◌+◌, ◌*◌, ◌/◌, leb}
use Rattle.machine.specs.Words.{pick}

abbrev pub least_length : ℕ → ℕ
least_length n = pick (leb n 512) 512 ((n + 511) / 512 * 512)
