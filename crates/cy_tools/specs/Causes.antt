-- What the errors of reading and of writing are for a tool.
use Rattle.cy_reader.specs.declared.error.LoadError.{LoadError}
use Rattle.cy_reader.specs.declared.error.LoadError.TheVariants as load_error
use Rattle.cy_writer.specs.declared.error.WriteError.{WriteError}
use Rattle.cy_writer.specs.declared.error.WriteError.TheVariants as write_error
use Rattle.cy_tools.specs.declared.error.File.TheVariants.{Input, Output}
use Rattle.cy_tools.specs.declared.error.ToolError.{ToolError}
use Rattle.cy_tools.specs.declared.error.ToolError.TheVariants.{Load, Store, Memory}

abbrev pub error_of_load : LoadError → ToolError
error_of_load load_error.Store = Store Input
error_of_load load_error.Memory = Memory
error_of_load e = Load e

abbrev pub error_of_write : WriteError → ToolError
error_of_write write_error.Failed = Store Output
error_of_write write_error.Broken = Store Output
error_of_write write_error.Memory = Memory
