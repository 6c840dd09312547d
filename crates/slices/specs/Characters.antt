-- The characters that the renderers write, by name.
use Rattle.std.specs.Prelude.{ℕ}

abbrev pub newline : ℕ
newline = 0x0a

abbrev pub blank : ℕ
blank = 0x20

abbrev pub quote : ℕ
quote = 0x27

abbrev pub plus : ℕ
plus = 0x2b

abbrev pub minus : ℕ
minus = 0x2d

abbrev pub dot : ℕ
dot = 0x2e

abbrev pub slash : ℕ
slash = 0x2f

abbrev pub colon : ℕ
colon = 0x3a

abbrev pub backslash : ℕ
backslash = 0x5c

abbrev pub underscore : ℕ
underscore = 0x5f

abbrev pub bar : ℕ
bar = 0x7c

abbrev pub tilde : ℕ
tilde = 0x7e
