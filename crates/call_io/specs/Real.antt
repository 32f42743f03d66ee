-- What a source or a sink over std's reader or writer stands over, and how many errors it saw: this project's profile.
-- The contracts of `RealSource` and `RealSink` cite this file.
use Rattle.std.specs.Prelude.{ℕ}
use Rattle.call_io.specs.declared.real.RealSource.{RealSource}
use Rattle.call_io.specs.declared.real.RealSink.{RealSink}

-- the reader that a source stands over
abbrev pub reader_of : {R : Type 0} → RealSource R → R
reader_of s = s.inner

-- how many of its calls failed
abbrev pub read_errors : {R : Type 0} → RealSource R → ℕ
read_errors s = s.faults

-- the writer that a sink stands over
abbrev pub writer_of : {W : Type 0} → RealSink W → W
writer_of s = s.inner

-- how many of its calls failed
abbrev pub write_errors : {W : Type 0} → RealSink W → ℕ
write_errors s = s.faults
