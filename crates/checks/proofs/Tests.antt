-- A test that a call answered and the code negates: what either way tells of the test.
use mathlib.Core.Path.{◌≡◌, sym, ◌∙◌}
use mathlib.Core.Bool.{Bool, true, false, not}
use borrow.Author.Tests.{not-true, not-false}

pub fails : {r test : Bool} → r ≡ test → not r ≡ true → test ≡ false
fails {r} e h = sym e ∙ not-true r h

pub holds : {r test : Bool} → r ≡ test → not r ≡ false → test ≡ true
holds {r} e h = sym e ∙ not-false r h
