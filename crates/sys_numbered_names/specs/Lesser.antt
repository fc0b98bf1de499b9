-- The least of numbers that files have.
use Rattle.std.specs.Prelude.{ℕ, nat_lt, Option, Some, None, if◌then◌else◌, ◌&&◌}

-- the lesser of two numbers above this one
abbrev pub lesser_of : Option ℕ → ℕ → Option ℕ → Option ℕ
lesser_of None behind None = None
lesser_of (Some least) behind None = Some least
lesser_of None behind (Some number) = if nat_lt behind number then Some number else None
lesser_of (Some least) behind (Some number) =
    if nat_lt behind number && nat_lt number least then Some number else Some least
