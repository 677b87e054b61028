-- A store's answer, as a writer's.
use Rattle.cy_store.specs.declared.error.StoreError.{StoreError}
use Rattle.cy_store.specs.declared.error.StoreError.TheVariants as store_error
use Rattle.cy_writer.specs.declared.error.WriteError.{WriteError}
use Rattle.cy_writer.specs.declared.error.WriteError.TheVariants as write_error

abbrev pub error_of : StoreError → WriteError
error_of store_error.Failed = write_error.Failed
error_of store_error.Memory = write_error.Memory
