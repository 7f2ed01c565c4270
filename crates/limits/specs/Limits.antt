-- The limits of document 01, by name. No other file of definitions or proofs has these numbers.
use Rattle.std.specs.Prelude.{ℕ, ◌+◌, ◌*◌}

-- how many bytes a record has
abbrev pub size : ℕ
size = 16

-- a file is at most this long
abbrev pub most_bytes : ℕ
most_bytes = 8192

-- blocks are numbered below this
abbrev pub numbers : ℕ
numbers = 128

-- a file has at most this many arms
abbrev pub most_arms : ℕ
most_arms = 384

-- the marks of an input block are below this: bit 7 is zero
abbrev pub marks_below : ℕ
marks_below = 128

-- ends are below this
abbrev pub ends_below : ℕ
ends_below = 7

-- tables by block number have this much room
abbrev pub blocks : ℕ
blocks = 256

-- tables by arm have this much room
abbrev pub arms : ℕ
arms = 512

-- the split place that says that there is none
abbrev pub no_split : ℕ
no_split = 256

-- a line of the listing has at most this many bytes: four letters, three numbers of three digits, a weight of twenty, and what stands
-- behind each
abbrev pub line_room : ℕ
line_room = 41

-- its last line has at most this many
abbrev pub last_room : ℕ
last_room = 27

-- the listing has at most this many
abbrev pub text_room : ℕ
text_room = blocks * line_room + last_room
