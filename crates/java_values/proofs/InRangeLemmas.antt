-- Wrapped numbers are in range, and unchanged where they were in range already.
use Rattle.std.proofs.Common.{rules, ◌≡◌, ℤ, pos, negsuc, arith, FitsSigned}
use Rattle.std.specs.Int.{w8, w16, w32, w64, int_wrap, int_rem_euclid}
use Rattle.std.proofs.lemmas.Int.{ints, SFits-int_wrap, int_wrap_fits}
use Rattle.std.proofs.Math.Nat.{mod-lt}
use Rattle.java_values.specs.declared.kind.Kind.{Kind}
use Rattle.java_values.specs.declared.kind.Kind.TheVariants.{Boolean, Byte, Short, Char, Int, Long}
use Rattle.java_values.specs.Kinds.{IsInRange}
use Rattle.java_values.specs.Arithmetic.{wrapped}

pub byte_range : (n : ℤ) → FitsSigned w8 n → IsInRange Byte n
byte_range n h = search rules

pub short_range : (n : ℤ) → FitsSigned w16 n → IsInRange Short n
short_range n h = search rules

pub int_range : (n : ℤ) → FitsSigned w32 n → IsInRange Int n
int_range n h = search rules

pub long_range : (n : ℤ) → FitsSigned w64 n → IsInRange Long n
long_range n h = search rules

boolean_range : (n : ℤ) → IsInRange Boolean (int_rem_euclid n (pos 2))
boolean_range (pos a) = record { low = search rules; high = search (rules, mod-lt) }
boolean_range (negsuc a) = record { low = search rules; high = search (rules, mod-lt) }

char_range : (n : ℤ) → IsInRange Char (int_rem_euclid n (pos 65536))
char_range (pos a) = record { low = search rules; high = search (rules, mod-lt) }
char_range (negsuc a) = record { low = search rules; high = search (rules, mod-lt) }

pub wrapped_range : (k : Kind) (n : ℤ) → IsInRange k (wrapped k n)
wrapped_range Boolean n = boolean_range n
wrapped_range Byte n = byte_range (int_wrap w8 n) (SFits-int_wrap w8 n)
wrapped_range Short n = short_range (int_wrap w16 n) (SFits-int_wrap w16 n)
wrapped_range Char n = char_range n
wrapped_range Int n = int_range (int_wrap w32 n) (SFits-int_wrap w32 n)
wrapped_range Long n = long_range (int_wrap w64 n) (SFits-int_wrap w64 n)

byte_fits : (n : ℤ) → IsInRange Byte n → FitsSigned w8 n
byte_fits n h = search rules

short_fits : (n : ℤ) → IsInRange Short n → FitsSigned w16 n
short_fits n h = search rules

int_fits : (n : ℤ) → IsInRange Int n → FitsSigned w32 n
int_fits n h = search rules

long_fits : (n : ℤ) → IsInRange Long n → FitsSigned w64 n
long_fits n h = search rules

boolean_kept : (n : ℤ) → IsInRange Boolean n → int_rem_euclid n (pos 2) ≡ n
boolean_kept (pos a) h = grind (arith, ints)
boolean_kept (negsuc a) h = grind (arith, ints)

char_kept : (n : ℤ) → IsInRange Char n → int_rem_euclid n (pos 65536) ≡ n
char_kept (pos a) h = grind (arith, ints)
char_kept (negsuc a) h = grind (arith, ints)

pub wrapped_kept : (k : Kind) (n : ℤ) → IsInRange k n → wrapped k n ≡ n
wrapped_kept Boolean n h = boolean_kept n h
wrapped_kept Byte n h = int_wrap_fits w8 n (byte_fits n h)
wrapped_kept Short n h = int_wrap_fits w16 n (short_fits n h)
wrapped_kept Char n h = char_kept n h
wrapped_kept Int n h = int_wrap_fits w32 n (int_fits n h)
wrapped_kept Long n h = int_wrap_fits w64 n (long_fits n h)
