-- What the iterator over a header's runs has left to yield.
use Rattle.std.specs.Prelude.{List}
use Rattle.fx_header.specs.declared.run.Run.{Run}
use Rattle.fx_header.specs.declared.pointers.RunIter.{RunIter}
use Rattle.fx_header.specs.Pointers.{runs_of}

-- the runs that are left to yield
abbrev pub runs_left : RunIter → List Run
runs_left it = runs_of it.bytes.now
