-- The version of the part, as include/quartree.h has it in QUARTREE_VERSION_MAJOR, QUARTREE_VERSION_MINOR and
-- QUARTREE_VERSION_PATCH, and the one number that a caller from C compares. The code has the same names, in src/lib.rt.
use Rattle.std.specs.Prelude.{ℕ, ◌+◌, ◌*◌}

abbrev pub major : ℕ
major = 0

abbrev pub minor : ℕ
minor = 10

abbrev pub patch : ℕ
patch = 0

-- the version in one number: a byte for the patch, a byte for the minor version, and the major version above them
abbrev pub version_number : ℕ
version_number = major * 65536 + minor * 256 + patch
